-- The faults of a text's numbers, one position at a time.
use Rattle.std.proofs.Common.{◌≡◌, ℕ, suc, ◌+◌, ◌-◌, ◌<◌, ◌≤◌, ◌==◌, ◌||◌, not, cond, nat_le, nat_lt, Bool, true, false, inl, inr, List, [], ◌∷◌, ◌++◌, All, Option, Some, None, length, replicate, slice_set, slice_index_or, refl, sym, ◌∙◌, ap, arith, append_assoc}
use Rattle.std.specs.List.{find, onto_first, position_from, range_with_len}
use Rattle.std.proofs.lemmas.Bool.{cases_eq, eq-eqb, ne_eqb}
use Rattle.std.proofs.lemmas.Bool.Decides.{nat_tests}
use Rattle.std.proofs.lemmas.List.Elements.{All-head, All-tail}
use Rattle.std.proofs.lemmas.List.{length-set, get_or-replicate, get_or-set_other, get_or-set_same}
use Rattle.part_layout.specs.Faults.{first_beyond, first_repeated, numbers_of, stands_in}
use Rattle.part_layout.specs.ReadOn.{grown, numbers_left, parts_left, Tells}
use Rattle.part_layout.specs.declared.cursor.ListedPosition.{ListedPosition}
use Rattle.part_layout.proofs.CursorLemmas.{numbers_grown}
use Rattle.part_layout.proofs.GrammarLemmas.{by_test}

-- the numbers of a rest are its first position and those after it
pub numbers_next : (rest after : List ℕ) (listed : ListedPosition) → parts_left rest ≡ grown listed (parts_left after)
    → numbers_of (parts_left rest) ≡ listed.position ∷ numbers_of (parts_left after)
numbers_next rest after listed same = ap numbers_of same ∙ numbers_grown listed (parts_left after)

-- they are small, as all are
pub small_next : (rest after : List ℕ) (listed : ListedPosition) → parts_left rest ≡ grown listed (parts_left after)
    → All (λ number. number < 256) (numbers_left rest)
    → (listed.position < 256) × All (λ number. number < 256) (numbers_left after)
small_next rest after listed same small =
    let next = numbers_next rest after listed same in
    let both : All (λ number. number < 256) (listed.position ∷ numbers_left after) = rw next at small in (
      All-head (λ number. number < 256) listed.position (numbers_left after) both,
      All-tail (λ number. number < 256) listed.position (numbers_left after) both,
    )

-- a first number that is beyond, and one that isn't
pub beyond_here : (bits n : ℕ) (numbers others : List ℕ) → numbers ≡ n ∷ others → bits ≤ n → first_beyond bits numbers ≡ Some n
beyond_here bits n numbers others same over =
    let test : nat_le bits n ≡ true = grind (arith, nat_tests) in
    ap (first_beyond bits) same ∙ ap (λ b. cond b (Some n) (first_beyond bits others)) test

pub beyond_later : (bits n : ℕ) (numbers others : List ℕ) → numbers ≡ n ∷ others → n < bits → first_beyond bits numbers ≡ first_beyond bits others
beyond_later bits n numbers others same under =
    let test : nat_le bits n ≡ false = grind (arith, nat_tests) in
    ap (first_beyond bits) same ∙ ap (λ b. cond b (Some n) (first_beyond bits others)) test

-- the numbers before are those that a table tells, and they and the rest are all
pub record IsMarked (table : List Bool) (all rest : List ℕ) : Type 0 where
  pub before : List ℕ
  pub size : length table ≡ 256
  pub told : Tells table before
  pub judged : first_repeated [] all ≡ first_repeated before rest
  pub whole : (number : ℕ) → stands_in all number ≡ (stands_in before number || stands_in rest number)

pub none_stands : (size position : ℕ) → position < size → slice_index_or (replicate size false) position false ≡ stands_in [] position
none_stands size position inside = get_or-replicate size position false false inside

pub none_marked : (table : List Bool) (all : List ℕ) → length table ≡ 256 → Tells table [] → IsMarked table all all
none_marked table all size empty = record { before = []; size = size; told = empty; judged = refl; whole = λ number. refl }

-- a first number that stood before
repeated_here : (n : ℕ) (before others : List ℕ) → stands_in before n ≡ true → first_repeated before (n ∷ others) ≡ Some n
repeated_here n before others stood = ap (λ b. cond b (Some n) (first_repeated (n ∷ before) others)) stood

pub repeated_later : (n : ℕ) (before others : List ℕ) → stands_in before n ≡ false → first_repeated before (n ∷ others) ≡ first_repeated (n ∷ before) others
repeated_later n before others new = ap (λ b. cond b (Some n) (first_repeated (n ∷ before) others)) new

pub found_twice : (table : List Bool) (all rest others : List ℕ) (n : ℕ) → rest ≡ n ∷ others → n < 256 → slice_index_or table n false ≡ true
    → IsMarked table all rest → first_repeated [] all ≡ Some n
found_twice table all rest others n same small marked so_far =
    so_far.judged ∙ ap (first_repeated so_far.before) same ∙ repeated_here n so_far.before others (sym (so_far.told n small) ∙ marked)

or_moved : (a b c : Bool) → (a || (b || c)) ≡ ((b || a) || c)
or_moved true true c = refl
or_moved true false c = refl
or_moved false true c = refl
or_moved false false c = refl

tells_more : (table : List Bool) (before : List ℕ) (n : ℕ) → length table ≡ 256 → n < 256 → Tells table before → Tells (slice_set table n true) (n ∷ before)
tells_more table before n size small told = λ position below.
    elim (cases_eq n position) [
      | inl same ↦
          let equal = eq-eqb n position same in
          let inside : n < length table = omega arith in
          let stands : stands_in (n ∷ before) position ≡ true = rw equal refl in
          ap (λ p. slice_index_or (slice_set table n true) p false) (sym same) ∙ get_or-set_same table n true false inside ∙ sym stands
      | inr other ↦
          let differs = ne_eqb n position other in
          let stands : stands_in (n ∷ before) position ≡ stands_in before position = rw differs refl in
          get_or-set_other table n position true false (λ (e : position ≡ n). other (sym e)) ∙ told position below ∙ sym stands
    ]

pub mark_more : (table : List Bool) (all rest others : List ℕ) (n : ℕ) → rest ≡ n ∷ others → n < 256 → slice_index_or table n false ≡ false
    → IsMarked table all rest → IsMarked (slice_set table n true) all others
mark_more table all rest others n same small new so_far =
    record {
      before = n ∷ so_far.before;
      size = length-set table n true ∙ so_far.size;
      told = tells_more table so_far.before n so_far.size small so_far.told;
      judged =
          so_far.judged
          ∙ ap (first_repeated so_far.before) same
          ∙ repeated_later n so_far.before others (sym (so_far.told n small) ∙ new);
      whole = λ number.
          so_far.whole number
          ∙ ap (λ numbers. stands_in so_far.before number || stands_in numbers number) same
          ∙ or_moved (stands_in so_far.before number) (n == number) (stands_in others number);
    }

or_none : (a : Bool) → (a || false) ≡ a
or_none true = refl
or_none false = refl

-- all numbers are marked
pub marked_single : (table : List Bool) (all rest : List ℕ) → rest ≡ [] → IsMarked table all rest → first_repeated [] all ≡ None
marked_single table all rest none so_far = so_far.judged ∙ ap (first_repeated so_far.before) none

pub marked_all : (table : List Bool) (all rest : List ℕ) → rest ≡ [] → IsMarked table all rest → Tells table all
marked_all table all rest none so_far = λ position below.
    so_far.told position below
    ∙ sym (so_far.whole position ∙ ap (λ numbers. stands_in so_far.before position || stands_in numbers position) none
    ∙ or_none (stands_in so_far.before position))

missing_first : (at count : ℕ) (numbers : List ℕ) (stands : Bool) → stands_in numbers at ≡ stands
    → find (λ position. not (stands_in numbers position)) (range_with_len at (suc count))
    ≡ cond (not stands) (Some at) (find (λ position. not (stands_in numbers position)) (range_with_len (at + 1) count))
missing_first at count numbers stands same =
    ap (λ b. cond (not b) (Some at) (find (λ position. not (stands_in numbers position)) (range_with_len (at + 1) count))) same

-- a position that is missing, and one that isn't
pub missing_here : (at bits : ℕ) (numbers : List ℕ) → at < bits → stands_in numbers at ≡ false
    → find (λ position. not (stands_in numbers position)) (range_with_len at (bits - at)) ≡ Some at
missing_here at bits numbers inside absent =
    let one : bits - at ≡ suc (bits - (at + 1)) = omega arith in rw one (missing_first at (bits - (at + 1)) numbers false absent)

pub missing_later : (at bits : ℕ) (numbers : List ℕ) → at < bits → stands_in numbers at ≡ true
    → find (λ position. not (stands_in numbers position)) (range_with_len at (bits - at))
    ≡ find (λ position. not (stands_in numbers position)) (range_with_len (at + 1) (bits - (at + 1)))
missing_later at bits numbers inside there =
    let one : bits - at ≡ suc (bits - (at + 1)) = omega arith in rw one (missing_first at (bits - (at + 1)) numbers true there)

pub missing_none : (at bits : ℕ) (numbers : List ℕ) → bits ≤ at → find (λ position. not (stands_in numbers position)) (range_with_len at (bits - at)) ≡ None
missing_none at bits numbers past = let none : bits - at ≡ 0 = omega arith in rw none refl

-- a part of more than 12 positions
abbrev is_wide : List ℕ → Bool
is_wide part = nat_lt 12 (length part)

-- the first wide part, from one on that already has so many positions
pub wide_from : ℕ → ℕ → List (List ℕ) → Option ℕ
wide_from at width [] = None
wide_from at width (part ∷ parts) = cond (nat_lt 12 (width + length part)) (Some at) (position_from is_wide (at + 1) parts)

-- the first part begins with no position
pub wide_start : (at : ℕ) (parts : List (List ℕ)) → position_from is_wide at parts ≡ wide_from at 0 parts
unfolding wide_from
wide_start at [] = refl
wide_start at (part ∷ parts) =
    let same : 0 + length part ≡ length part = omega arith in
    ap (λ n. cond (nat_lt 12 n) (Some at) (position_from is_wide (at + 1) parts)) (sym same)

wide_cons : (at width : ℕ) (part : List ℕ) (parts : List (List ℕ)) (test : Bool) → nat_lt 12 (width + length part) ≡ test
    → wide_from at width (part ∷ parts) ≡ cond test (Some at) (position_from is_wide (at + 1) parts)
unfolding wide_from
wide_cons at width part parts test same = ap (λ b. cond b (Some at) (position_from is_wide (at + 1) parts)) same

wide_onto : (at width n : ℕ) (parts : List (List ℕ)) → width + 1 ≤ 12 → wide_from at width (onto_first n parts) ≡ wide_from at (width + 1) parts
unfolding wide_from
wide_onto at width n [] narrow = wide_cons at width (n ∷ []) [] false (grind (arith, nat_tests))
wide_onto at width n (part ∷ parts) narrow =
    let same : width + suc (length part) ≡ width + 1 + length part = omega arith in
    ap (λ m. cond (nat_lt 12 m) (Some at) (position_from is_wide (at + 1) parts)) same

wide_over : (at width n : ℕ) (parts : List (List ℕ)) → 12 < width + 1 → wide_from at width (onto_first n parts) ≡ Some at
unfolding wide_from
wide_over at width n [] over = wide_cons at width (n ∷ []) [] true (grind (arith, nat_tests))
wide_over at width n (part ∷ parts) over = wide_cons at width (n ∷ part) parts true (grind (arith, nat_tests))

-- one position more makes the part too wide
pub wide_here : (at width : ℕ) (listed : ListedPosition) (parts left : List (List ℕ)) → parts ≡ grown listed left → 12 < width + 1
    → wide_from at width parts ≡ Some at
unfolding wide_from
wide_here at width listed parts left same over =
    elim (by_test listed.ends_part) [
      | inl ends ↦
          ap (wide_from at width) (same ∙ ap (λ b. cond b ((listed.position ∷ []) ∷ left) (onto_first listed.position left)) ends)
          ∙ wide_cons at width (listed.position ∷ []) left true (grind (arith, nat_tests))
      | inr goes ↦
          ap (wide_from at width) (same ∙ ap (λ b. cond b ((listed.position ∷ []) ∷ left) (onto_first listed.position left)) goes)
          ∙ wide_over at width listed.position left over
    ]

-- the part ends
pub wide_next : (at width : ℕ) (listed : ListedPosition) (parts left : List (List ℕ)) → parts ≡ grown listed left → listed.ends_part ≡ true → width + 1 ≤ 12
    → wide_from at width parts ≡ wide_from (at + 1) 0 left
unfolding wide_from
wide_next at width listed parts left same ends narrow =
    ap (wide_from at width) (same ∙ ap (λ b. cond b ((listed.position ∷ []) ∷ left) (onto_first listed.position left)) ends)
    ∙ wide_cons at width (listed.position ∷ []) left false (grind (arith, nat_tests))
    ∙ wide_start (at + 1) left

-- the part goes on
pub wide_on : (at width : ℕ) (listed : ListedPosition) (parts left : List (List ℕ)) → parts ≡ grown listed left → listed.ends_part ≡ false → width + 1 ≤ 12
    → wide_from at width parts ≡ wide_from at (width + 1) left
unfolding wide_from
wide_on at width listed parts left same goes narrow =
    ap (wide_from at width) (same ∙ ap (λ b. cond b ((listed.position ∷ []) ∷ left) (onto_first listed.position left)) goes)
    ∙ wide_onto at width listed.position left narrow

-- no part is left
pub wide_none : (at width : ℕ) (parts : List (List ℕ)) → parts ≡ [] → wide_from at width parts ≡ None
unfolding wide_from
wide_none at width parts none = ap (wide_from at width) none

-- positions of a part before those of the first one left
pub after_part : List ℕ → List (List ℕ) → List (List ℕ)
after_part part [] = part ∷ []
after_part part (first ∷ others) = (part ++ first) ∷ others

pub part_start : (parts : List (List ℕ)) → 0 < length parts → parts ≡ after_part [] parts
unfolding after_part
part_start [] some = absurd (omega arith)
part_start (part ∷ parts) some = refl

-- the part ends
pub part_ends : (listed : ListedPosition) (part : List ℕ) (parts left : List (List ℕ)) → parts ≡ grown listed left → listed.ends_part ≡ true
    → after_part part parts ≡ (part ++ listed.position ∷ []) ∷ left
unfolding after_part
part_ends listed part parts left same ends =
    ap (after_part part) (same ∙ ap (λ b. cond b ((listed.position ∷ []) ∷ left) (onto_first listed.position left)) ends)

part_onto : (part : List ℕ) (n : ℕ) (left : List (List ℕ)) → after_part part (onto_first n left) ≡ after_part (part ++ n ∷ []) left
unfolding after_part
part_onto part n [] = refl
part_onto part n (first ∷ others) = ap (λ xs. xs ∷ others) (sym (append_assoc part (n ∷ []) first))

-- the part goes on
pub part_on : (listed : ListedPosition) (part : List ℕ) (parts left : List (List ℕ)) → parts ≡ grown listed left → listed.ends_part ≡ false
    → after_part part parts ≡ after_part (part ++ listed.position ∷ []) left
part_on listed part parts left same goes =
    ap (after_part part) (same ∙ ap (λ b. cond b ((listed.position ∷ []) ∷ left) (onto_first listed.position left)) goes)
    ∙ part_onto part listed.position left
