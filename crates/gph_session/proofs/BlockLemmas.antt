-- Lemmas on blocks: what a line, the rest of a block, and the end of the input make of a session.
use Rattle.std.proofs.Common.{◌≡◌, ℕ, ◌+◌, ◌-◌, ◌≤◌, true, Option, Some, Result, Ok, Err}
use Rattle.std.proofs.Common.{List, [], ◌∷◌, ◌++◌, length, take, drop}
use Rattle.std.proofs.Common.{sym, ap, ◌∙◌, subst, arith, append-nil, append_assoc, length-append}
use Rattle.std.specs.Io.KnownBytes.{Appends}
use Rattle.std.proofs.KnownBytes.{Appends-trans, Appends-nil}
use Rattle.std.proofs.Math.Seq.{take-add}
use Rattle.std.proofs.lemmas.List.{take_all, take_rest, take-append-drop}
use Rattle.byte_lines.specs.Cut.{held_of, TellsOf}
use Rattle.byte_lines.specs.Lines.{ended_lines, unended, last_line, lines}
use Rattle.byte_lines.specs.declared.cutter.Cut.{Cut}
use Rattle.byte_lines.specs.declared.cutter.Cut.TheVariants.{Line, Long}
use Rattle.line_io.specs.declared.source.Failed.{Failed}
use Rattle.byte_lines.proofs.LinesLemmas.{ended_lines-append}
use Rattle.hamming_model.specs.History.{JournalEntry}
use Rattle.part_layout.specs.declared.config.Config.{Config}
use Rattle.session_desk.specs.Desks.{seen_history}
use Rattle.query_protocol.specs.Replies.{text}
use Rattle.session_model.specs.Run.{before_quit}
use Rattle.session_step.specs.declared.turn.Turn.{Turn}
use Rattle.session_step.specs.declared.turn.Turn.TheVariants.{Goes, Quits}
use Rattle.open_session.specs.Moments.{Moment}
use Rattle.gph_session.specs.Flow.{Start, GoesOn}
use Rattle.gph_session.specs.Pieces.{HasServed, HasEnded, WasRefused, FlowIs, FlowsOn, EndIs}
use Rattle.session_step.specs.Answering.{TurnIs, AnswersAs}
use Rattle.gph_session.proofs.FlowLemmas.{served_so_far, all_before_quit, goes_line, served_last, stands_here}
use Rattle.gph_session.proofs.FlowLemmas.{refused_line, ended_line, goes_bytes, refused_more, ended_more}

-- a cut that tells of one line is the last word on it
one_line : (cut : Cut) (lent : List ℕ) (all : List (List ℕ)) → TellsOf (Some cut) lent all
    → (line : List ℕ) × (all ≡ line ∷ [])
one_line Line lent all tells = (lent, tells.0)
one_line Long lent all tells = (tells.0, tells.1)

-- nothing was added to an output
nothing_more : (output : List ℕ) → output ≡ output ++ []
nothing_more output = sym (append-nil output)

module _ {W : ℕ} (config : Config) (start : Start) (now : Moment W) (bytes output : List ℕ)
    (begun : Option (List ℕ)) (going : GoesOn config start now bytes output begun)
    (before after : Option (List ℕ)) where
  module _ (next : Moment W) (begun' : Option (List ℕ)) where
    abbrev past : List JournalEntry
    past = seen_history now.desk

    -- a piece that ended one line
    turn_flow : (result : Result Turn Failed) (line piece : List ℕ)
        → ended_lines (unended [] bytes) piece ≡ line ∷ []
        → begun' ≡ held_of (unended (unended [] bytes) piece)
        → TurnIs result W config past going.state line before after now next
        → (more : List ℕ) × Appends before after more
        × FlowIs result config start next bytes piece (output ++ more) begun'
    turn_flow (Ok Goes) line piece ended begun_is turn =
        goes_line config start now bytes output begun going line before after next turn piece begun' ended
        begun_is
    turn_flow (Ok Quits) line piece ended begun_is turn =
        let all = ended_lines [] (bytes ++ piece) in
        let lines_are = ended_lines-append [] bytes piece ∙ ap (λ l. ended_lines [] bytes ++ l) ended in (
          [],
          turn.1,
          subst (λ o. HasEnded config start next all o) (nothing_more output)
              (ended_line config start now bytes output begun going line next turn.0 turn.2 all lines_are),
        )
    turn_flow (Err failed) line piece ended begun_is turn =
        let all = ended_lines [] (bytes ++ piece) in
        let lines_are = ended_lines-append [] bytes piece ∙ ap (λ l. ended_lines [] bytes ++ l) ended in (
          take turn.step.wrote.0 (text turn.step.exchange.replies),
          turn.step.wrote.2,
          refused_line config start now bytes output begun going line before after (Err failed) next turn
              turn.step.wrote.0 turn.step.wrote.1 all lines_are,
        )

    -- the same, by what the cutter tells of the piece and the session answers to each line that it may
    -- tell of
    pub cut_flow : (result : Result Turn Failed) (cut : Cut) (lent piece : List ℕ)
        → TellsOf (Some cut) lent (ended_lines (unended [] bytes) piece)
        → begun' ≡ held_of (unended (unended [] bytes) piece)
        → ((line : List ℕ) → TellsOf (Some cut) lent (line ∷ [])
        → AnswersAs result config line before after now next)
        → (more : List ℕ) × Appends before after more
        × FlowIs result config start next bytes piece (output ++ more) begun'
    cut_flow result cut lent piece tells begun_is answers =
        let all = ended_lines (unended [] bytes) piece in
        let only = one_line cut lent all tells in
        turn_flow result only.0 piece only.1 begun_is
        (answers only.0 (subst (TellsOf (Some cut) lent) only.1 tells) past going.state
        (stands_here config start now bytes output begun going))

    -- the last line, which no LF ends
    turn_end : (result : Result Turn Failed) (line : List ℕ) → last_line (unended [] bytes) ≡ line ∷ []
        → TurnIs result W config past going.state line before after now next
        → (more : List ℕ) × Appends before after more
        × EndIs result config start next bytes (output ++ more)
    turn_end (Ok Goes) line last turn =
        served_last config start now bytes output begun going line before after next turn (lines bytes true)
        (ap (λ l. ended_lines [] bytes ++ l) last)
    turn_end (Ok Quits) line last turn =
        let ended = ended_line config start now bytes output begun going line next turn.0
        turn.2 (lines bytes true) (ap (λ l. ended_lines [] bytes ++ l) last) in (
          [],
          turn.1,
          subst (λ o. HasServed config start next (before_quit config (lines bytes true)) o)
              (nothing_more output) ended.served,
        )
    turn_end (Err failed) line last turn = (
      take turn.step.wrote.0 (text turn.step.exchange.replies),
      turn.step.wrote.2,
      refused_line config start now bytes output begun going line before after (Err failed) next turn
          turn.step.wrote.0 turn.step.wrote.1 (lines bytes true) (ap (λ l. ended_lines [] bytes ++ l) last),
    )

    pub cut_end : (result : Result Turn Failed) (cut : Cut) (lent : List ℕ)
        → TellsOf (Some cut) lent (last_line (unended [] bytes))
        → ((line : List ℕ) → TellsOf (Some cut) lent (line ∷ [])
        → AnswersAs result config line before after now next)
        → (more : List ℕ) × Appends before after more
        × EndIs result config start next bytes (output ++ more)
    cut_end result cut lent tells answers =
        let only = one_line cut lent (last_line (unended [] bytes)) tells in
        turn_end result only.0 only.1
        (answers only.0 (subst (TellsOf (Some cut) lent) only.1 tells) past going.state
        (stands_here config start now bytes output begun going))

  -- a piece that ended no line
  pub uncut_flow : (begun' known : Option (List ℕ)) (piece : List ℕ)
      → ended_lines (unended [] bytes) piece ≡ [] → begun' ≡ held_of (unended (unended [] bytes) piece)
      → (more : List ℕ) × Appends known known more
      × GoesOn config start now (bytes ++ piece) (output ++ more) begun'
  uncut_flow begun' known piece none begun_is = (
    [],
    Appends-nil known,
    subst (λ o. GoesOn config start now (bytes ++ piece) o begun') (nothing_more output)
        (goes_bytes config start now bytes output begun going piece begun' none begun_is),
  )

  -- no line follows the last LF
  pub no_end : (known : Option (List ℕ)) → last_line (unended [] bytes) ≡ []
      → (more : List ℕ) × Appends known known more
      × HasServed config start now (before_quit config (lines bytes true)) (output ++ more)
  no_end known none =
      let all : lines bytes true ≡ ended_lines [] bytes =
      ap (λ l. ended_lines [] bytes ++ l) none ∙ append-nil (ended_lines [] bytes) in
      let same = ap (before_quit config) all
      ∙ all_before_quit config start now bytes output begun going in
      let served = served_so_far config start now bytes output begun going in (
        [],
        Appends-nil known,
        subst (λ o. HasServed config start now (before_quit config (lines bytes true)) o) (nothing_more output)
            (subst (λ l. HasServed config start now l output) (sym same) served),
      )

  -- before the first line of a block
  pub still_goes : (known : Option (List ℕ)) → (more : List ℕ) × Appends known known more
      × GoesOn config start now (bytes ++ []) (output ++ more) begun
  still_goes known = (
    [],
    Appends-nil known,
    subst (λ b. GoesOn config start now b (output ++ []) begun) (sym (append-nil bytes))
        (subst (λ o. GoesOn config start now bytes o begun) (nothing_more output) going),
  )

-- ---- two pieces, one after the other

-- a session went on after the first of two pieces, and the second ended as it did
flow_after : (a b c : Option (List ℕ)) (bytes output front piece whole first : List ℕ)
    → Appends a b first → (P : List ℕ → List ℕ → Type 0)
    → ((more : List ℕ) × Appends b c more × P ((bytes ++ front) ++ piece) ((output ++ first) ++ more))
    → whole ≡ front ++ piece → (more : List ℕ) × Appends a c more × P (bytes ++ whole) (output ++ more)
flow_after a b c bytes output front piece whole first wrote P second is = (
  first ++ second.0,
  Appends-trans a b c first second.0 wrote second.1,
  subst (λ w. P (bytes ++ w) (output ++ (first ++ second.0))) (sym is)
      (subst (λ x. P x (output ++ (first ++ second.0))) (append_assoc bytes front piece)
      (subst (P ((bytes ++ front) ++ piece)) (append_assoc output first second.0) second.2)),
)

-- what ended a session with a front of some bytes did so with all of them
ended_in_front : {W : ℕ} (config : Config) (start : Start) (now : Moment W) (front rest output : List ℕ)
    → HasEnded config start now (ended_lines [] front) output
    → HasEnded config start now (ended_lines [] (front ++ rest)) output
ended_in_front config start now front rest output h =
    subst (λ l. HasEnded config start now l output) (sym (ended_lines-append [] front rest))
    (ended_more config start now (ended_lines [] front) (ended_lines (unended [] front) rest) output h)

refused_in_front : {W : ℕ} (config : Config) (start : Start) (now : Moment W)
    (front rest output : List ℕ) (known fewer : ℕ) → fewer ≤ known
    → WasRefused config start now (ended_lines [] front) output known
    → WasRefused config start now (ended_lines [] (front ++ rest)) output fewer
refused_in_front config start now front rest output known fewer le h =
    subst (λ l. WasRefused config start now l output fewer) (sym (ended_lines-append [] front rest))
    (refused_more config start now (ended_lines [] front) (ended_lines (unended [] front) rest) output
    known fewer le h)

-- ---- a line of a block, after the front of the block

-- a front, and what stands behind it
whole_block : (bytes block : List ℕ) (k : ℕ) → (bytes ++ take k block) ++ drop k block ≡ bytes ++ block
whole_block bytes block k =
    append_assoc bytes (take k block) (drop k block)
    ∙ ap (λ l. bytes ++ l) (take-append-drop k block)

-- no fewer lines end in more bytes
pub no_fewer_lines : (bytes more : List ℕ)
    → length (ended_lines [] bytes) ≤ length (ended_lines [] (bytes ++ more))
no_fewer_lines bytes more =
    omega (
      arith,
      ap length (ended_lines-append [] bytes more),
      length-append (ended_lines [] bytes) (ended_lines (unended [] bytes) more),
    )

-- a session that had answered the front of a block met the line behind it
module _ {W : ℕ} (config : Config) (start : Start) (old new : Moment W) (done number : ℕ)
    (block bytes output : List ℕ) (a b c begun begun' : Option (List ℕ))
    (so_far : (more : List ℕ) × Appends a b more
    × GoesOn config start old (bytes ++ take done block) (output ++ more) begun)
    (result : Result Turn Failed)
    (next : FlowsOn result config old new begun begun'
    (take number (take (length block - done) (drop done block))) b c) where
  -- the line's bytes, and the front with them
  abbrev piece : List ℕ
  piece = take number (take (length block - done) (drop done block))

  abbrev front : List ℕ
  front = take (done + number) block

  fits : front ≡ take done block ++ piece
  fits = take-add done number block ∙ ap (λ l. take done block ++ take number l) (sym (take_rest block done))

  -- what the line made of the session
  abbrev Next : Result Turn Failed → Type 0
  Next result = (more : List ℕ) × Appends b c more
      × FlowIs result config start new (bytes ++ take done block) piece
      ((output ++ so_far.0) ++ more) begun'

  next_is : (expected : Result Turn Failed) → result ≡ expected → Next expected
  next_is expected is =
      let at = bytes ++ take done block in
      let then = next start at (output ++ so_far.0) so_far.2 in (
        then.0,
        then.1,
        subst (λ r. FlowIs r config start new at piece ((output ++ so_far.0) ++ then.0) begun') is then.2,
      )

  pub goes_then : result ≡ Ok Goes → (more : List ℕ) × Appends a c more
      × GoesOn config start new (bytes ++ front) (output ++ more) begun'
  goes_then is =
      flow_after a b c bytes output (take done block) piece front so_far.0 so_far.1
      (λ x o. GoesOn config start new x o begun') (next_is (Ok Goes) is) fits

  pub quits_then : result ≡ Ok Quits → (more : List ℕ) × Appends a c more
      × HasEnded config start new (ended_lines [] (bytes ++ block)) (output ++ more)
  quits_then is =
      let rest = drop (done + number) block in
      let f = flow_after a b c bytes output (take done block) piece front so_far.0 so_far.1
      (λ x o. HasEnded config start new (ended_lines [] x) o) (next_is (Ok Quits) is) fits in (
        f.0,
        f.1,
        subst (λ l. HasEnded config start new (ended_lines [] l) (output ++ f.0))
            (whole_block bytes block (done + number))
            (ended_in_front config start new (bytes ++ front) rest (output ++ f.0) f.2),
      )

  pub refused_then : (failed : Failed) → result ≡ Err failed → (more : List ℕ) × Appends a c more
      × WasRefused config start new (ended_lines [] (bytes ++ block)) (output ++ more)
      (length (ended_lines [] bytes))
  refused_then failed is =
      let rest = drop (done + number) block in
      let known = length (ended_lines [] (bytes ++ take done block)) in
      let fewer = length (ended_lines [] bytes) in
      let f = flow_after a b c bytes output (take done block) piece front so_far.0 so_far.1
      (λ x o. WasRefused config start new (ended_lines [] x) o known) (next_is (Err failed) is) fits in (
        f.0,
        f.1,
        subst (λ l. WasRefused config start new (ended_lines [] l) (output ++ f.0) fewer)
            (whole_block bytes block (done + number))
            (refused_in_front config start new (bytes ++ front) rest (output ++ f.0) known fewer
            (no_fewer_lines bytes (take done block)) f.2),
      )

-- a whole block was answered
pub all_goes : {W : ℕ} (config : Config) (start : Start) (new : Moment W) (done : ℕ) (block bytes output : List ℕ)
    (before after begun : Option (List ℕ)) → length block ≤ done
    → ((more : List ℕ) × Appends before after more × GoesOn config start new (bytes ++ take done block) (output ++ more) begun)
    → (more : List ℕ) × Appends before after more × GoesOn config start new (bytes ++ block) (output ++ more) begun
all_goes config start new done block bytes output before after begun whole end = (
  end.0,
  end.1,
  subst (λ l. GoesOn config start new (bytes ++ l) (output ++ end.0) begun) (take_all done block whole) end.2,
)
