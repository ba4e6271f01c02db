-- Lemmas on blocks: what a line, the rest of a block, and the end of the input make of a call.
use Rattle.std.proofs.Common.{◌≡◌, ℕ, ◌+◌, ◌-◌, ◌≤◌, true, Option, Some, Result, Ok, Err}
use Rattle.std.proofs.Common.{List, [], ◌∷◌, ◌++◌, length, take, drop}
use Rattle.std.proofs.Common.{sym, ap, ◌∙◌, subst, arith, append-nil, append_assoc, length-append}
use Rattle.std.specs.Io.KnownBytes.{Appends}
use Rattle.std.proofs.KnownBytes.{Appends-trans, Appends-nil}
use Rattle.std.proofs.Math.Seq.{take-add}
use Rattle.std.proofs.lemmas.List.{take_all, take_rest, take-append-drop}
use Rattle.byte_lines.specs.Cut.{held_of, TellsOf}
use Rattle.byte_lines.specs.Lines.{ended_lines, unended, last_line, lines}
use Rattle.byte_lines.specs.declared.cutter.Cut.{Cut}
use Rattle.byte_lines.proofs.LinesLemmas.{ended_lines-append, unended-append}
use Rattle.line_io.specs.declared.source.Failed.{Failed}
use Rattle.session_model.specs.Ledger.{Ledgers}
use Rattle.line_answers.specs.Answered.{Answering, AnswersInOrder}
use Rattle.line_answers.specs.Flow.{Progress, HasAnswered, WasBroken, StandsAfter, StandsAtEnd, ProceedsBy, AnswersLineCut, AnswersLine}
use Rattle.line_answers.proofs.FlowLemmas.{line_more, broken_more, one_line}

-- nothing was added to an output
nothing_more : (output : List ℕ) → output ≡ output ++ []
nothing_more output = sym (append-nil output)

module _ (Old New : Answering) (old new : Progress) (start : Ledgers) (bytes output : List ℕ)
    (going : HasAnswered Old old start bytes output) where
  -- a piece that ended one line, which was answered so
  line_flow : (result : Result (Unit {0}) Failed) (line piece : List ℕ)
      → ended_lines (unended [] bytes) piece ≡ line ∷ []
      → new.begun ≡ held_of (unended (unended [] bytes) piece)
      → AnswersLine result Old old New new line
      → (more : List ℕ) × Appends old.written new.written more
      × StandsAfter result New new start bytes piece (output ++ more)
  line_flow (Ok on) line piece ended begun answers =
      let all = ended_lines-append [] bytes piece ∙ ap (λ l. ended_lines [] bytes ++ l) ended in
      let more = line_more Old New old new start (ended_lines [] bytes) output line going.answers (Ok on) answers in (
        more.0,
        more.1,
        record {
          answers = subst (λ l. AnswersInOrder (New start new.ledgers) l (output ++ more.0)) (sym all) more.2;
          begun = begun ∙ ap held_of (sym (unended-append [] bytes piece));
        },
      )
  line_flow (Err failed) line piece ended begun answers =
      let all = ended_lines-append [] bytes piece ∙ ap (λ l. ended_lines [] bytes ++ l) ended in
      let more = line_more Old New old new start (ended_lines [] bytes) output line going.answers (Err failed) answers in (
        more.0,
        more.1,
        subst (λ l. WasBroken New new start l (output ++ more.0) (length (ended_lines [] bytes))) (sym all) more.2,
      )

  -- the same, by what the cutter tells of the piece
  pub cut_flow : (result : Result (Unit {0}) Failed) (cut : Cut) (lent piece : List ℕ)
      → TellsOf (Some cut) lent (ended_lines (unended [] bytes) piece)
      → new.begun ≡ held_of (unended (unended [] bytes) piece)
      → AnswersLineCut cut lent result Old old New new
      → (more : List ℕ) × Appends old.written new.written more
      × StandsAfter result New new start bytes piece (output ++ more)
  cut_flow result cut lent piece tells begun answers =
      let only = one_line cut lent (ended_lines (unended [] bytes) piece) tells in
      line_flow result only.0 piece only.1 begun
      (answers only.0 (subst (TellsOf (Some cut) lent) only.1 tells))

  -- the last line, which no LF ends
  line_end : (result : Result (Unit {0}) Failed) (line : List ℕ) → last_line (unended [] bytes) ≡ line ∷ []
      → AnswersLine result Old old New new line
      → (more : List ℕ) × Appends old.written new.written more
      × StandsAtEnd result New new start bytes (output ++ more)
  line_end (Ok on) line last answers =
      let all = ap (λ l. ended_lines [] bytes ++ l) last in
      let more = line_more Old New old new start (ended_lines [] bytes) output line going.answers (Ok on) answers in
      (more.0, more.1, subst (λ l. AnswersInOrder (New start new.ledgers) l (output ++ more.0)) (sym all) more.2)
  line_end (Err failed) line last answers =
      let all = ap (λ l. ended_lines [] bytes ++ l) last in
      let more = line_more Old New old new start (ended_lines [] bytes) output line going.answers (Err failed) answers in (
        more.0,
        more.1,
        subst (λ l. WasBroken New new start l (output ++ more.0) (length (ended_lines [] bytes))) (sym all) more.2,
      )

  pub cut_end : (result : Result (Unit {0}) Failed) (cut : Cut) (lent : List ℕ)
      → TellsOf (Some cut) lent (last_line (unended [] bytes))
      → AnswersLineCut cut lent result Old old New new
      → (more : List ℕ) × Appends old.written new.written more
      × StandsAtEnd result New new start bytes (output ++ more)
  cut_end result cut lent tells answers =
      let only = one_line cut lent (last_line (unended [] bytes)) tells in
      line_end result only.0 only.1 (answers only.0 (subst (TellsOf (Some cut) lent) only.1 tells))

module _ (Old : Answering) (old : Progress) (start : Ledgers) (bytes output : List ℕ)
    (going : HasAnswered Old old start bytes output) where
  -- a piece that ended no line
  pub uncut_flow : (new : Progress) (piece : List ℕ) → ended_lines (unended [] bytes) piece ≡ []
      → new.begun ≡ held_of (unended (unended [] bytes) piece)
      → new.ledgers ≡ old.ledgers → new.written ≡ old.written
      → (more : List ℕ) × Appends old.written new.written more
      × HasAnswered Old new start (bytes ++ piece) (output ++ more)
  uncut_flow new piece none begun same written =
      let all = ended_lines-append [] bytes piece ∙ ap (λ l. ended_lines [] bytes ++ l) none
      ∙ append-nil (ended_lines [] bytes) in
      let one = subst (λ l. AnswersInOrder (Old start l) (ended_lines [] bytes) output) (sym same) going.answers in
      let two = subst (λ l. AnswersInOrder (Old start new.ledgers) l output) (sym all) one in (
        [],
        subst (λ w. Appends old.written w []) (sym written) (Appends-nil old.written),
        record {
          answers = subst (λ o. AnswersInOrder (Old start new.ledgers) (ended_lines [] (bytes ++ piece)) o)
              (nothing_more output) two;
          begun = begun ∙ ap held_of (sym (unended-append [] bytes piece));
        },
      )

  -- no line follows the last LF
  pub no_end : last_line (unended [] bytes) ≡ []
      → (more : List ℕ) × Appends old.written old.written more
      × AnswersInOrder (Old start old.ledgers) (lines bytes true) (output ++ more)
  no_end none =
      let all : lines bytes true ≡ ended_lines [] bytes =
      ap (λ l. ended_lines [] bytes ++ l) none ∙ append-nil (ended_lines [] bytes) in (
        [],
        Appends-nil old.written,
        subst (λ o. AnswersInOrder (Old start old.ledgers) (lines bytes true) o) (nothing_more output)
            (subst (λ l. AnswersInOrder (Old start old.ledgers) l output) (sym all) going.answers),
      )

  -- before the first line of a block
  pub still_goes : (more : List ℕ) × Appends old.written old.written more
      × HasAnswered Old old start (bytes ++ []) (output ++ more)
  still_goes = (
    [],
    Appends-nil old.written,
    subst (λ b. HasAnswered Old old start b (output ++ [])) (sym (append-nil bytes))
        (subst (λ o. HasAnswered Old old start bytes o) (nothing_more output) going),
  )

-- ---- two pieces, one after the other

-- a call went on after the first of two pieces, and the second ended as it did
flow_after : (a b c : Option (List ℕ)) (bytes output front piece whole first : List ℕ)
    → Appends a b first → (P : List ℕ → List ℕ → Type 0)
    → ((more : List ℕ) × Appends b c more × P ((bytes ++ front) ++ piece) ((output ++ first) ++ more))
    → whole ≡ front ++ piece → (more : List ℕ) × Appends a c more × P (bytes ++ whole) (output ++ more)
flow_after a b c bytes output front piece whole first wrote P second is = (
  first ++ second.0,
  Appends-trans a b c first second.0 wrote second.1,
  subst (λ w. P (bytes ++ w) (output ++ (first ++ second.0))) (sym is)
      (subst (λ x. P x (output ++ (first ++ second.0))) (append_assoc bytes front piece)
      (subst (P ((bytes ++ front) ++ piece)) (append_assoc output first second.0) second.2)),
)

-- what broke off in a front of some bytes did so with all of them
broken_in_front : (New : Answering) (new : Progress) (start : Ledgers) (front rest output : List ℕ)
    (known fewer : ℕ) → fewer ≤ known → WasBroken New new start (ended_lines [] front) output known
    → WasBroken New new start (ended_lines [] (front ++ rest)) output fewer
broken_in_front New new start front rest output known fewer le was =
    subst (λ l. WasBroken New new start l output fewer) (sym (ended_lines-append [] front rest))
    (broken_more New new start (ended_lines [] front) (ended_lines (unended [] front) rest) output known fewer le
    was)

-- a front, and what stands behind it
whole_block : (bytes block : List ℕ) (k : ℕ) → (bytes ++ take k block) ++ drop k block ≡ bytes ++ block
whole_block bytes block k =
    append_assoc bytes (take k block) (drop k block)
    ∙ ap (λ l. bytes ++ l) (take-append-drop k block)

-- no fewer lines end in more bytes
pub no_fewer_lines : (bytes more : List ℕ)
    → length (ended_lines [] bytes) ≤ length (ended_lines [] (bytes ++ more))
no_fewer_lines bytes more =
    omega (
      arith,
      ap length (ended_lines-append [] bytes more),
      length-append (ended_lines [] bytes) (ended_lines (unended [] bytes) more),
    )

-- a call that had answered the front of a block met the line behind it
module _ (Old New : Answering) (a : Option (List ℕ)) (old new : Progress) (start : Ledgers) (done number : ℕ)
    (block bytes output : List ℕ)
    (so_far : (more : List ℕ) × Appends a old.written more
    × HasAnswered Old old start (bytes ++ take done block) (output ++ more))
    (result : Result (Unit {0}) Failed)
    (next : ProceedsBy result Old old New new (take number (take (length block - done) (drop done block)))) where
  -- the line's bytes, and the front with them
  abbrev piece : List ℕ
  piece = take number (take (length block - done) (drop done block))

  abbrev front : List ℕ
  front = take (done + number) block

  fits : front ≡ take done block ++ piece
  fits = take-add done number block ∙ ap (λ l. take done block ++ take number l) (sym (take_rest block done))

  -- what the line made of the call
  abbrev Next : Result (Unit {0}) Failed → Type 0
  Next result = (more : List ℕ) × Appends old.written new.written more
      × StandsAfter result New new start (bytes ++ take done block) piece ((output ++ so_far.0) ++ more)

  next_is : (expected : Result (Unit {0}) Failed) → result ≡ expected → Next expected
  next_is expected is =
      let at = bytes ++ take done block in
      let then = next start at (output ++ so_far.0) so_far.2 in (
        then.0,
        then.1,
        subst (λ r. StandsAfter r New new start at piece ((output ++ so_far.0) ++ then.0)) is then.2,
      )

  pub goes_then : (on : Unit {0}) → result ≡ Ok on → (more : List ℕ) × Appends a new.written more
      × HasAnswered New new start (bytes ++ front) (output ++ more)
  goes_then on is =
      flow_after a old.written new.written bytes output (take done block) piece front so_far.0 so_far.1
      (λ x o. HasAnswered New new start x o) (next_is (Ok on) is) fits

  pub broken_then : (failed : Failed) → result ≡ Err failed → (more : List ℕ) × Appends a new.written more
      × WasBroken New new start (ended_lines [] (bytes ++ block)) (output ++ more) (length (ended_lines [] bytes))
  broken_then failed is =
      let rest = drop (done + number) block in
      let known = length (ended_lines [] (bytes ++ take done block)) in
      let fewer = length (ended_lines [] bytes) in
      let f = flow_after a old.written new.written bytes output (take done block) piece front so_far.0 so_far.1
      (λ x o. WasBroken New new start (ended_lines [] x) o known) (next_is (Err failed) is) fits in (
        f.0,
        f.1,
        subst (λ l. WasBroken New new start (ended_lines [] l) (output ++ f.0) fewer)
            (whole_block bytes block (done + number))
            (broken_in_front New new start (bytes ++ front) rest (output ++ f.0) known fewer
            (no_fewer_lines bytes (take done block)) f.2),
      )

-- a whole block was answered
pub all_goes : (New : Answering) (a : Option (List ℕ)) (new : Progress) (start : Ledgers) (done : ℕ) (block bytes output : List ℕ)
    → length block ≤ done
    → ((more : List ℕ) × Appends a new.written more × HasAnswered New new start (bytes ++ take done block) (output ++ more))
    → (more : List ℕ) × Appends a new.written more × HasAnswered New new start (bytes ++ block) (output ++ more)
all_goes New a new start done block bytes output whole end = (
  end.0,
  end.1,
  subst (λ l. HasAnswered New new start (bytes ++ l) (output ++ end.0)) (take_all done block whole) end.2,
)
