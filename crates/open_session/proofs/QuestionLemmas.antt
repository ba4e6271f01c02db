-- Lemmas on a question: how great its bound may be, how far its hits are, and where its answer is cut.
use Rattle.std.proofs.Common.{◌≡◌, ℕ, zero, suc, ◌+◌, ◌*◌, ◌≤◌, ◌<◌, min, nat_le, Bool, true, false, cond, ℤ}
use Rattle.std.proofs.Common.{List, [], ◌∷◌, length, map, take, filter, Option, Some, None, IfSome}
use Rattle.std.proofs.Common.{refl, sym, ap, ◌∙◌, subst, arith}
use Rattle.std.specs.List.{AllByRecursion}
use Rattle.std.specs.Ordering.{is_gt}
use Rattle.std.proofs.lemmas.Bool.{leb-true}
use Rattle.std.proofs.lemmas.List.{take_all, take_min, length-map}
use Rattle.hamming_model.specs.declared.limits.TheConstants.{BITS_MOST, ENTRIES_MOST, PARTS_MOST}
use Rattle.hamming_model.specs.declared.hit.Hit.{Hit}
use Rattle.hamming_model.specs.Scan.{Ask, Range, Near, answer, scan, hit_cmp, hit_of, placed, in_order, hits_within}
use Rattle.hit_source.specs.Sources.{Asked}
use Rattle.threshold_model.specs.Bounds.{IsBoundOf, IsPlanOf, IsLeastUpTo, last_distance}
use Rattle.threshold_model.specs.Vectors.{row_counts}
use Rattle.threshold_model.proofs.ChoiceLemmas.{least_of_rows}
use Rattle.open_queries.proofs.BoundLemmas.{all_in_order, last_of_all}
use Rattle.open_session.specs.Questions.{asked_code, radius_in, limit_in}
use Rattle.open_session.specs.Meaning.{AsksOn}

-- ---- what a source is asked

-- the most that a bound on a shard may be: the least costs at all radii up to the greatest
abbrev pub bound_most : ℕ
bound_most = 257 * ENTRIES_MOST

-- a plan has a threshold a part
plan_size : (asked : Ask) (rows : List (ℕ × List ℕ)) (layout : List (List ℕ)) (last : Option ℕ) (thresholds : List ℤ)
    (cost : ℕ) → IsPlanOf asked rows layout last thresholds cost → length thresholds ≡ length layout
plan_size (Range tau code) rows layout last thresholds cost is = is.vector.vector.size
plan_size (Near number code) rows layout None thresholds cost is = is.vector.vector.size
plan_size (Near number code) rows layout (Some farthest) thresholds cost is = is.vector.vector.size

-- so that the first 64 thresholds are all
pub asked_plan : (bits : ℕ) (asked : Ask) (rows : List (ℕ × List ℕ)) (layout : List (List ℕ)) (a : Asked)
    → AsksOn bits asked rows layout a → (last : Option ℕ) → IfSome last (λ distance. distance ≤ bits)
    → length layout ≤ PARTS_MOST
    → IsPlanOf asked rows layout last (take PARTS_MOST (a.plan last).0) (a.plan last).1
asked_plan bits asked rows layout a asks last near few =
    let vector = (a.plan last).0 in
    let size = plan_size asked rows layout last vector (a.plan last).1 (asks.plan last near) in
    let all : take PARTS_MOST vector ≡ vector = take_all PARTS_MOST vector (omega (arith, size, few)) in
    subst (λ ts. IsPlanOf asked rows layout last ts (a.plan last).1) (sym all) (asks.plan last near)

-- the least costs at so many radii are at most as many times the number of rows
least_up_to_few : (rows : List (ℕ × List ℕ)) (layout : List (List ℕ)) (code : List ℕ) (radii sum : ℕ)
    → 0 < length layout → length rows ≤ ENTRIES_MOST
    → IsLeastUpTo (row_counts rows layout code) (length layout) radii sum → sum ≤ radii * ENTRIES_MOST
least_up_to_few rows layout code zero sum some few is = omega (arith, is)
least_up_to_few rows layout code (suc radius) sum some few is =
    omega (
      arith,
      least_up_to_few rows layout code radius is.earlier some few is.is_earlier,
      least_of_rows rows layout code radius is.one some is.is_one,
      few,
      is.all,
    )

pub bound_few : (bits : ℕ) (asked : Ask) (rows : List (ℕ × List ℕ)) (layout : List (List ℕ)) → bits ≤ BITS_MOST
    → 0 < length layout → length rows ≤ ENTRIES_MOST → (last : Option ℕ) → IfSome last (λ distance. distance ≤ bits)
    → (bound : ℕ) → IsBoundOf asked rows layout last bound → bound ≤ bound_most
bound_few bits (Range tau code) rows layout low some few last near bound is =
    omega (arith, least_of_rows rows layout code tau bound some is, few)
bound_few bits (Near number code) rows layout low some few None near bound is = omega (arith, is)
bound_few bits (Near number code) rows layout low some few (Some farthest) near bound is =
    omega (arith, least_up_to_few rows layout code (farthest + 1) bound some few is, near, low)

-- ---- no scan has more hits than there are rows

length_placed_by : (hit other : Hit) (hits : List Hit) (after : Bool)
    → length (placed hit hits) ≡ length hits + 1
    → length (cond after (other ∷ placed hit hits) (hit ∷ other ∷ hits)) ≡ length (other ∷ hits) + 1
length_placed_by hit other hits true same = omega (arith, same)
length_placed_by hit other hits false same = omega arith

length_placed : (hit : Hit) (hits : List Hit) → length (placed hit hits) ≡ length hits + 1
length_placed hit [] = refl
length_placed hit (other ∷ hits) = length_placed_by hit other hits (is_gt (hit_cmp hit other))
    (length_placed hit hits)

length_in_order : (hits : List Hit) → length (in_order hits) ≡ length hits
length_in_order [] = refl
length_in_order (hit ∷ hits) = omega
    (arith, length_placed hit (in_order hits), length_in_order hits)

length_kept_by : (hit : Hit) (kept hits : List Hit) (near : Bool) → length kept ≤ length hits
    → length (cond near (hit ∷ kept) kept) ≤ length (hit ∷ hits)
length_kept_by hit kept hits true fewer = omega (arith, fewer)
length_kept_by hit kept hits false fewer = omega (arith, fewer)

length_kept : (radius : ℕ) (hits : List Hit)
    → length (filter (λ hit. nat_le hit.dist radius) hits) ≤ length hits
length_kept radius [] = omega arith
length_kept radius (hit ∷ hits) = length_kept_by hit
    (filter (λ hit. nat_le hit.dist radius) hits) hits (nat_le hit.dist radius)
    (length_kept radius hits)

pub scan_within : (rows : List (ℕ × List ℕ)) (query : List ℕ) (radius : ℕ)
    → length (scan rows query radius) ≤ length rows
scan_within rows query radius =
    let fewer : length (hits_within rows query radius) ≤ length
    (map (hit_of query) rows) = length_kept radius (map (hit_of query) rows) in
    let size : length (map (hit_of query) rows) ≡ length rows = length-map rows (hit_of query) in
    omega (arith, length_in_order (hits_within rows query radius), fewer, size)

-- ---- no hit is farther than the radius

within_by : (far : ℕ) (hit : Hit) (kept : List Hit) (near : Bool) → (near ≡ true → hit.dist ≤ far)
    → AllByRecursion (λ (other : Hit). other.dist ≤ far) kept
    → AllByRecursion (λ (other : Hit). other.dist ≤ far) (cond near (hit ∷ kept) kept)
within_by far hit kept true here all = (here refl, all)
within_by far hit kept false here all = all

all_within : (radius far : ℕ) (hits : List Hit) → radius ≤ far
    → AllByRecursion (λ (hit : Hit). hit.dist ≤ far) (filter (λ hit. nat_le hit.dist radius) hits)
all_within radius far [] low = tt
all_within radius far (hit ∷ hits) low =
    within_by far hit (filter (λ hit. nat_le hit.dist radius) hits) (nat_le hit.dist radius)
    (λ is. omega (arith, leb-true hit.dist radius is, low)) (all_within radius far hits low)

near_scan : (rows : List (ℕ × List ℕ)) (query : List ℕ) (radius far : ℕ) → radius ≤ far
    → AllByRecursion (λ (hit : Hit). hit.dist ≤ far) (scan rows query radius)
near_scan rows query radius far low =
    all_in_order (λ hit. hit.dist ≤ far) (hits_within rows query radius)
    (all_within radius far (map (hit_of query) rows) low)

all_taken : (P : Hit → Type 0) (n : ℕ) (hits : List Hit) → AllByRecursion P hits → AllByRecursion P (take n hits)
all_taken P zero hits all = tt
all_taken P (suc n) [] all = tt
all_taken P (suc n) (hit ∷ hits) all = (all.0, all_taken P n hits all.1)

near_answer : (bits : ℕ) (rows : List (ℕ × List ℕ)) (asked : Ask) → radius_in bits asked ≤ bits
    → AllByRecursion (λ (hit : Hit). hit.dist ≤ bits) (answer bits rows asked)
near_answer bits rows (Range tau code) low = near_scan rows code tau bits low
near_answer bits rows (Near number code) low =
    all_taken (λ hit. hit.dist ≤ bits) number (scan rows code bits) (near_scan rows code bits bits low)

-- the last of the first hits of an answer, and the last of all
pub last_near : (bits : ℕ) (rows : List (ℕ × List ℕ)) (asked : Ask) → radius_in bits asked ≤ bits → (n : ℕ)
    → IfSome (last_distance (take n (answer bits rows asked))) (λ distance. distance ≤ bits)
last_near bits rows asked low n = last_of_all bits n (answer bits rows asked) (near_answer bits rows asked low)

pub last_near_all : (bits : ℕ) (rows : List (ℕ × List ℕ)) (asked : Ask) → radius_in bits asked ≤ bits
    → IfSome (last_distance (answer bits rows asked)) (λ distance. distance ≤ bits)
last_near_all bits rows asked low =
    let hits = answer bits rows asked in
    subst (λ l. IfSome (last_distance l) (λ distance. distance ≤ bits)) (take_all (length hits) hits (omega arith))
    (last_near bits rows asked low (length hits))

-- ---- where the answer is cut

-- a cut past the end of a list is none
cut_past : (number most : ℕ) (hits : List Hit) → length hits ≤ most → take (min number most) hits ≡ take number hits
cut_past number most hits le =
    let one : min (min number most) (length hits) ≡ min number (length hits) = omega (arith, le) in
    sym (take_min (min number most) hits) ∙ ap (λ n. take n hits) one ∙ take_min number hits

pub cut_answer : (bits : ℕ) (rows : List (ℕ × List ℕ)) (asked : Ask) → length rows ≤ 18446744073709551615
    → take (limit_in asked (length rows)) (scan rows (asked_code asked) (radius_in bits asked)) ≡ answer bits rows asked
cut_answer bits rows (Range tau code) few =
    take_all 18446744073709551615 (scan rows code tau) (omega (arith, scan_within rows code tau, few))
cut_answer bits rows (Near number code) few =
    cut_past number (length rows) (scan rows code bits) (scan_within rows code bits)
