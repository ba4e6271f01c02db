-- How many hits an answer has, how great their numbers are, and how many rows a history leaves.
use Rattle.std.proofs.Common.{◌≡◌, ℕ, zero, suc, ◌+◌, ◌<◌, ◌≤◌, ◌^◌, ◌==◌, nat_le, Bool, true, false, cond, List, [], ◌∷◌, ◌++◌, length, map, take, drop, filter, refl, ap, arith}
use Rattle.std.proofs.lemmas.List.{length-take}
use Rattle.std.proofs.lemmas.List.Sums.{length-filter, count_by-le-length}
use Rattle.std.proofs.lemmas.List.Sorted.{length_permutation}
use Rattle.std.proofs.Math.Nat.{min-le_left, min-le_right}
use Rattle.std.specs.List.{AllByRecursion}
use Rattle.std.specs.declared.cmp.Ordering.{Ordering}
use Rattle.std.specs.declared.cmp.Ordering.TheVariants.{Less, Equal, Greater}
use Rattle.std.specs.Ordering.{nat_cmp, match_ordering, is_gt}
use Rattle.std.specs.BTreeMap.{insert_entry}
use Rattle.hamming_model.specs.Codes.{distance}
use Rattle.hamming_model.specs.History.{JournalEntry, Operation, Add, Delete, rows_of, rows_from, changed}
use Rattle.hamming_model.specs.Scan.{Ask, Range, Near, answer, scan, in_order, placed, hit_cmp, hit_of, hits_within}
use Rattle.hamming_model.specs.declared.hit.Hit.{Hit}
use Rattle.hamming_model.proofs.OrderLemmas.{in_order_permutation}

-- ---- lists

go_filter : {X : Type 0} (P : X → Type 0) (keep : Bool) (x : X) (xs : List X) → P x → AllByRecursion P xs → AllByRecursion P (cond keep (x ∷ xs) xs)
go_filter P true x xs one all = (one, all)
go_filter P false x xs one all = all

all_filtered : {X : Type 0} (P : X → Type 0) (test : X → Bool) (xs : List X) → AllByRecursion P xs → AllByRecursion P (filter test xs)
all_filtered P test [] all = tt
all_filtered P test (x ∷ xs) all = go_filter P (test x) x (filter test xs) all.0 (all_filtered P test xs all.1)

pub all_taken : {X : Type 0} (P : X → Type 0) (number : ℕ) (xs : List X) → AllByRecursion P xs → AllByRecursion P (take number xs)
all_taken P zero [] all = tt
all_taken P zero (x ∷ xs) all = tt
all_taken P (suc number) [] all = tt
all_taken P (suc number) (x ∷ xs) all = (all.0, all_taken P number xs all.1)

pub all_dropped : {X : Type 0} (P : X → Type 0) (number : ℕ) (xs : List X) → AllByRecursion P xs → AllByRecursion P (drop number xs)
all_dropped P zero [] all = tt
all_dropped P zero (x ∷ xs) all = all
all_dropped P (suc number) [] all = tt
all_dropped P (suc number) (x ∷ xs) all = all_dropped P number xs all.1

pub all_joined : {X : Type 0} (P : X → Type 0) (xs ys : List X) → AllByRecursion P xs → AllByRecursion P ys → AllByRecursion P (xs ++ ys)
all_joined P [] ys front back = back
all_joined P (x ∷ xs) ys front back = (front.0, all_joined P xs ys front.1 back)

-- ---- hits

-- a hit whose numbers are of 64 bits
abbrev pub IsSmallHit : Hit → Type 0
IsSmallHit hit = (hit.dist < 2 ^ 64) × (hit.key < 2 ^ 64)

abbrev pub AreSmallKeys : List (ℕ × List ℕ) → Type 0
AreSmallKeys rows = AllByRecursion (λ row. row.0 < 2 ^ 64) rows

-- the question's code
abbrev pub code_asked : Ask → List ℕ
code_asked (Range radius code) = code
code_asked (Near number code) = code

one_apart : (same : Bool) → cond same 0 1 ≤ 1
one_apart true = omega arith
one_apart false = omega arith

distance_most : (one other : List ℕ) → distance one other ≤ length other
distance_most [] other = omega arith
distance_most (a ∷ one) [] = omega arith
distance_most (a ∷ one) (b ∷ other) = omega (arith, one_apart (a == b), distance_most one other)

all_hits : (rows : List (ℕ × List ℕ)) (query : List ℕ) → AreSmallKeys rows → length query < 2 ^ 64 → AllByRecursion IsSmallHit (map (hit_of query) rows)
all_hits [] query keys short = tt
all_hits (row ∷ rows) query keys short = ((omega (arith, short, distance_most row.1 query), keys.0), all_hits rows query keys.1 short)

go_placed : (later : Bool) (hit other : Hit) (hits : List Hit) → IsSmallHit hit → IsSmallHit other → AllByRecursion IsSmallHit hits
    → AllByRecursion IsSmallHit (placed hit hits) → AllByRecursion IsSmallHit (cond later (other ∷ placed hit hits) (hit ∷ other ∷ hits))
go_placed true hit other hits one first all rest = (first, rest)
go_placed false hit other hits one first all rest = (one, (first, all))

all_placed : (hit : Hit) (hits : List Hit) → IsSmallHit hit → AllByRecursion IsSmallHit hits → AllByRecursion IsSmallHit (placed hit hits)
all_placed hit [] one all = (one, tt)
all_placed hit (other ∷ hits) one all =
    go_placed (is_gt (hit_cmp hit other)) hit other hits one all.0 all.1 (all_placed hit hits one all.1)

all_ordered : (hits : List Hit) → AllByRecursion IsSmallHit hits → AllByRecursion IsSmallHit (in_order hits)
all_ordered [] all = tt
all_ordered (hit ∷ hits) all = all_placed hit (in_order hits) all.0 (all_ordered hits all.1)

all_scanned : (rows : List (ℕ × List ℕ)) (query : List ℕ) (radius : ℕ) → AreSmallKeys rows → length query < 2 ^ 64
    → AllByRecursion IsSmallHit (scan rows query radius)
all_scanned rows query radius keys short =
    all_ordered (hits_within rows query radius)
    (all_filtered IsSmallHit (λ (hit : Hit). nat_le hit.dist radius) (map (hit_of query) rows) (all_hits rows query keys short))

pub all_answered : (bits : ℕ) (rows : List (ℕ × List ℕ)) (asked : Ask) → AreSmallKeys rows → length (code_asked asked) < 2 ^ 64
    → AllByRecursion IsSmallHit (answer bits rows asked)
all_answered bits rows (Range radius code) keys short = all_scanned rows code radius keys short
all_answered bits rows (Near number code) keys short = all_taken IsSmallHit number (scan rows code bits) (all_scanned rows code bits keys short)

-- no more hits than rows
hits_number : (rows : List (ℕ × List ℕ)) (query : List ℕ) → length (map (hit_of query) rows) ≡ length rows
hits_number [] query = refl
hits_number (row ∷ rows) query = ap suc (hits_number rows query)

few_scanned : (rows : List (ℕ × List ℕ)) (query : List ℕ) (radius : ℕ) → length (scan rows query radius) ≤ length rows
few_scanned rows query radius =
    let near = λ (hit : Hit). nat_le hit.dist radius in
    let same = length_permutation (hits_within rows query radius) (scan rows query radius) (in_order_permutation (hits_within rows query radius)) in
    let kept = length-filter near (map (hit_of query) rows) in
    omega (arith, same, kept, count_by-le-length near (map (hit_of query) rows), hits_number rows query)

pub few_answered : (bits : ℕ) (rows : List (ℕ × List ℕ)) (asked : Ask) → length (answer bits rows asked) ≤ length rows
few_answered bits rows (Range radius code) = few_scanned rows code radius
few_answered bits rows (Near number code) =
    omega (arith, few_scanned rows code bits, length-take number (scan rows code bits), min-le_right number (length (scan rows code bits)))

-- ---- rows

-- an entry that adds a row, with a key of 64 bits
abbrev pub IsSmallAddition : Operation → Type 0
IsSmallAddition (Add key code) = key < 2 ^ 64
IsSmallAddition (Delete key) = ⊥

abbrev pub AreSmallAdditions : List JournalEntry → Type 0
AreSmallAdditions entries = AllByRecursion (λ (entry : JournalEntry). IsSmallAddition entry.operation) entries

-- rows with small keys, so many at most
record AreFew (number : ℕ) (rows : List (ℕ × List ℕ)) : Type 0 where
  keys : AreSmallKeys rows
  few : length rows ≤ number

go_inserted : (order : Ordering) (key number : ℕ) (code : List ℕ) (row : ℕ × List ℕ) (rows more : List (ℕ × List ℕ)) → key < 2 ^ 64
    → AreFew number (row ∷ rows) → AreFew number more
    → AreFew (number + 1) (match_ordering order ((key, code) ∷ row ∷ rows) ((row.0, code) ∷ rows) (row ∷ more))
go_inserted Less key number code row rows more small are rest = record { keys = (small, are.keys); few = omega (arith, are.few) }
go_inserted Equal key number code row rows more small are rest = record { keys = are.keys; few = omega (arith, are.few) }
go_inserted Greater key number code row rows more small are rest = record { keys = (are.keys.0, rest.keys); few = omega (arith, rest.few) }

inserted : (rows : List (ℕ × List ℕ)) (key number : ℕ) (code : List ℕ) → key < 2 ^ 64 → AreFew number rows
    → AreFew (number + 1) (insert_entry nat_cmp rows key code)
inserted [] key number code small are = record { keys = (small, tt); few = omega arith }
inserted (row ∷ rows) key zero code small are = let some = are.few in absurd (omega (arith, some))
inserted (row ∷ rows) key (suc number) code small are =
    let rest = inserted rows key number code small (record { keys = are.keys.1; few = omega (arith, are.few) }) in
    go_inserted (nat_cmp key row.0) key (suc number) code row rows (insert_entry nat_cmp rows key code) small are
    (record { keys = rest.keys; few = omega (arith, rest.few) })

after_entry : (operation : Operation) (rows : List (ℕ × List ℕ)) (number : ℕ) → IsSmallAddition operation → AreFew number rows
    → AreFew (number + 1) (changed rows operation)
after_entry (Add key code) rows number small are = inserted rows key number code small are
after_entry (Delete key) rows number small are = absurd small

after_entries : (entries : List JournalEntry) (rows : List (ℕ × List ℕ)) (number : ℕ) → AreSmallAdditions entries → AreFew number rows
    → AreFew (number + length entries) (rows_from rows entries)
after_entries [] rows number all are = record { keys = are.keys; few = omega (arith, are.few) }
after_entries (entry ∷ entries) rows number all are =
    let rest = after_entries entries (changed rows entry.operation) (number + 1) all.1 (after_entry entry.operation rows number all.0 are) in
    record { keys = rest.keys; few = omega (arith, rest.few) }

-- the rows of the first entries of a history that only adds
pub small_rows : (history : List JournalEntry) (position : ℕ) → AreSmallAdditions history → AreSmallKeys (rows_of (take position history))
small_rows history position all =
    (after_entries (take position history) [] 0 (all_taken (λ (entry : JournalEntry). IsSmallAddition entry.operation) position history all)
    (record { keys = tt; few = omega arith })).keys

pub few_rows : (history : List JournalEntry) (position : ℕ) → AreSmallAdditions history → length (rows_of (take position history)) ≤ position
few_rows history position all =
    let are = after_entries (take position history) [] 0 (all_taken (λ (entry : JournalEntry). IsSmallAddition entry.operation) position history all)
    (record { keys = tt; few = omega arith }) in
    omega (arith, are.few, length-take position history, min-le_left position (length history))
