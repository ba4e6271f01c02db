-- Lemmas on lines that were answered: one more line, and lines behind those.
use Rattle.std.proofs.Common.{◌≡◌, ℕ, ◌≤◌, Some, Result, Ok, Err, List, [], ◌∷◌, ◌++◌, length, take}
use Rattle.std.proofs.Common.{refl, sym, ap, ◌∙◌, arith, append-nil, append_assoc}
use Rattle.std.specs.Io.KnownBytes.{Appends}
use Rattle.byte_lines.specs.Cut.{TellsOf}
use Rattle.byte_lines.specs.declared.cutter.Cut.{Cut}
use Rattle.byte_lines.specs.declared.cutter.Cut.TheVariants.{Line, Long}
use Rattle.line_io.specs.declared.source.Failed.{Failed}
use Rattle.session_model.specs.Ledger.{Ledgers}
use Rattle.line_answers.specs.Answered.{Answering, AnswersInOrder, joined_texts}
use Rattle.line_answers.specs.Flow.{Progress, AnswersLine, WasBroken}

-- the texts of some answers, and of one more
pub joined_one : (texts : List (List ℕ)) (text : List ℕ) → joined_texts (texts ++ text ∷ []) ≡ joined_texts texts ++ text
joined_one [] text = append-nil text
joined_one (first ∷ texts) text =
    ap (λ l. first ++ l) (joined_one texts text) ∙ sym (append_assoc first (joined_texts texts) text)

-- a cut that tells of one line is the last word on it
pub one_line : (cut : Cut) (lent : List ℕ) (all : List (List ℕ)) → TellsOf (Some cut) lent all
    → (line : List ℕ) × (all ≡ line ∷ [])
one_line Line lent all tells = (lent, tells.0)
one_line Long lent all tells = (tells.0, tells.1)

-- what a line made of lines that were answered
abbrev pub AfterLine : Result (Unit {0}) Failed → Answering → Progress → Ledgers → List (List ℕ) → List ℕ → ℕ → Type 0
AfterLine (Ok on) New new start all output known = AnswersInOrder (New start new.ledgers) all output
AfterLine (Err failed) New new start all output known = WasBroken New new start all output known

module _ (Old New : Answering) (old new : Progress) (start : Ledgers) (lines : List (List ℕ)) (output line : List ℕ)
    (so_far : AnswersInOrder (Old start old.ledgers) lines output) where
  -- a line more was answered, or its answer was broken off
  pub line_more : (result : Result (Unit {0}) Failed) → AnswersLine result Old old New new line
      → (more : List ℕ) × Appends old.written new.written more
      × AfterLine result New new start (lines ++ line ∷ []) (output ++ more) (length lines)
  line_more (Ok on) answers = (
    answers.text,
    answers.written,
    record {
      texts = so_far.texts ++ answers.text ∷ [];
      answered = answers.next start lines so_far.texts so_far.answered;
      output_is = ap (λ l. l ++ answers.text) so_far.output_is ∙ sym (joined_one so_far.texts answers.text);
    },
  )
  line_more (Err failed) answers = (
    take answers.written.0 answers.text,
    answers.written.2,
    record {
      broken = record {
        before = lines;
        line = line;
        rest = [];
        texts = so_far.texts;
        text = answers.text;
        answered = answers.next start lines so_far.texts so_far.answered;
        lines_are = refl;
        taken = answers.written.0;
        not_all = answers.written.1;
        output_is = ap (λ l. l ++ take answers.written.0 answers.text) so_far.output_is;
      };
      all_before = omega arith;
    },
  )

-- an answer that was broken off is so with more lines behind
pub broken_more : (New : Answering) (new : Progress) (start : Ledgers) (lines more : List (List ℕ)) (output : List ℕ)
    (known fewer : ℕ) → fewer ≤ known → WasBroken New new start lines output known
    → WasBroken New new start (lines ++ more) output fewer
broken_more New new start lines more output known fewer le was =
    let b = was.broken in
    record {
      broken = record {
        before = b.before;
        line = b.line;
        rest = b.rest ++ more;
        texts = b.texts;
        text = b.text;
        answered = b.answered;
        lines_are = ap (λ l. l ++ more) b.lines_are ∙ append_assoc b.before (b.line ∷ b.rest) more;
        taken = b.taken;
        not_all = b.not_all;
        output_is = b.output_is;
      };
      all_before = omega (arith, le, was.all_before);
    }
