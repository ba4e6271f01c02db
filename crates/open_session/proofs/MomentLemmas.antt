-- Lemmas on what a session has read and spent from one moment to another.
use Rattle.std.proofs.Common.{◌≡◌, ℕ, ◌+◌, ◌≤◌, List, [], ◌∷◌, ◌++◌, length, map}
use Rattle.std.proofs.Common.{true, refl, ap, ◌∙◌, arith, append-nil, length-append}
use Rattle.std.proofs.lemmas.List.{map-append, length-map}
use Rattle.hamming_model.specs.History.{JournalEntry}
use Rattle.session_desk.specs.Desks.{DeskState, seen_history}
use Rattle.session_desk.specs.Calls.{Learns, OnlyLearns}
use Rattle.session_model.specs.State.{Query}
use Rattle.session_model.specs.Entries.{Exchange}
use Rattle.session_model.specs.Ledger.{sum_of}
use Rattle.session_model.specs.Upkeep.{entries_beyond, other_steps, all_other_steps}
use Rattle.open_session.specs.KeptDesk.{KeepsDesk, layouts_of, pins_of}
use Rattle.open_session.specs.Moments.{ReadsTo, Spends}

-- ---- the ledgers of the queries

pub reads_still : (ledgers : List ℕ) (queries : List Query) → ReadsTo ledgers ledgers queries queries
reads_still ledgers queries = record { number = refl; each = λ ledger lt. refl }

pub reads_then : (a b c : List ℕ) (one two three : List Query) → ReadsTo a b one two
    → ReadsTo b c two three → ReadsTo a c one three
reads_then a b c one two three first second = record {
  number = second.number ∙ first.number;
  each = λ ledger lt.
      omega (arith, first.each ledger lt, second.each ledger (omega (arith, lt, first.number)));
}

-- ---- upkeep

pub spends_still : (desk : DeskState) (steps beside : ℕ) → Spends desk desk steps steps beside
spends_still desk steps beside =
    record { longer = omega arith; within = λ most le. omega arith }

-- more entries were seen, and nothing was spent
pub spends_seen : (old new : DeskState) (steps beside : ℕ) → length old.seen ≤ length new.seen
    → pins_of new ≡ pins_of old → Spends old new steps steps beside
spends_seen old new steps beside longer same = record {
  longer = longer;
  within = λ most le.
      omega (arith, ap (λ l. entries_beyond l most) same);
}

pub spends_then : (a b c : DeskState) (from at to first second : ℕ) → Spends a b from at first
    → Spends b c at to second → Spends a c from to (first + second)
spends_then a b c from at to first second one two = record {
  longer = omega (arith, one.longer, two.longer);
  within = λ most le.
      omega (arith, one.within most (omega (arith, two.longer, le)), two.within most le);
}

-- the steps of one more exchange
pub sum_append : (a b : List ℕ) → sum_of (a ++ b) ≡ sum_of a + sum_of b
sum_append [] b = omega arith
sum_append (n ∷ a) b = omega (arith, sum_append a b)

pub others_more : (shards : ℕ) (exchanges : List Exchange) (e : Exchange)
    → all_other_steps shards (exchanges ++ e ∷ [])
    ≡ all_other_steps shards exchanges + other_steps shards e.replies e.seen
others_more shards exchanges e =
    let Vain = λ (e : Exchange). other_steps shards e.replies e.seen in
    let both : sum_of (map Vain (exchanges ++ e ∷ []))
    ≡ sum_of (map Vain exchanges) + sum_of (Vain e ∷ []) =
    ap sum_of (map-append Vain exchanges (e ∷ [])) ∙ sum_append (map Vain exchanges) (Vain e ∷ []) in
    omega (arith, both)

-- ---- histories

pub as_long : (desk : DeskState) → length (seen_history desk) ≡ length desk.seen
as_long desk = length-map desk.seen _

-- ---- a desk that has seen no more

pub desk_keeps : (desk : DeskState) → KeepsDesk desk desk
desk_keeps desk = record {
  board = refl;
  who = refl;
  config = refl;
  fronts = refl;
  done = refl;
  late = refl;
  alone = refl;
  layouts = λ alone. refl;
}

-- what is seen is no shorter
pub seen_longer : (old : DeskState) (seen : List JournalEntry) → Learns old seen → length old.seen ≤ length seen
seen_longer old seen learns = omega (arith, ap length learns.longer, length-append old.seen learns.more)

-- a desk that is alone has seen all
pub seen_whole : (old : DeskState) (seen : List JournalEntry) → Learns old seen → old.alone ≡ true → seen ≡ old.seen
seen_whole old seen learns alone =
    learns.longer ∙ ap (λ l. old.seen ++ l) (learns.all alone) ∙ append-nil old.seen

-- a desk that only learns keeps all else
pub only_keeps : (old new : DeskState) → OnlyLearns old new → KeepsDesk old new
only_keeps old new only = record {
  board = ap (λ (d : DeskState). d.board) only.after;
  who = ap (λ (d : DeskState). d.who) only.after;
  config = ap (λ (d : DeskState). d.config) only.after;
  fronts = ap (λ (d : DeskState). d.fronts) only.after;
  done = ap (λ (d : DeskState). d.done) only.after;
  late = ap (λ (d : DeskState). d.late) only.after;
  alone = ap (λ (d : DeskState). d.alone) only.after;
  layouts = λ alone. ap layouts_of only.after;
}

-- a desk that is alone learns nothing
pub learns_nothing : (old new : DeskState) → old.alone ≡ true → OnlyLearns old new → new ≡ old
learns_nothing old new alone only =
    let same : new.seen ≡ old.seen = seen_whole old new.seen only.learns alone in
    only.after ∙ ap (λ (l : List JournalEntry). record old { seen = l }) same
