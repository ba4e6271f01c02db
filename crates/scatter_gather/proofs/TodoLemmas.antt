-- A round of polls leaves less to do.
use Rattle.std.proofs.Common.{◌≡◌, ℕ, ◌+◌, ◌<◌, ◌≤◌, List, [], ◌∷◌, length, get_or, map, refl, ap, subst, arith, zero, suc, true, false, Bool, cond, Option, Some, None, inl, inr}
use Rattle.std.specs.Prelude.{sum_by, is_some}
use Rattle.std.specs.List.{list_any}
use Rattle.std.proofs.lemmas.Bool.{or_cases, and_parts, MatchBool-at_true, MatchBool-at_false, cases_Bool}
use Rattle.std.proofs.lemmas.List.{length-map, get_or-map}
use Rattle.std.proofs.lemmas.List.Sums.{sum_by-cons}
use Rattle.hamming_model.specs.declared.hit.Hit.{Hit}
use Rattle.hit_source.specs.declared.polled.Polled.{Polled}
use Rattle.hit_source.specs.declared.polled.Polled.TheVariants.{Moved, Full, Ended}
use Rattle.hit_source.specs.Sources.{Asked, Standing, IsLawful}
use Rattle.hit_source.specs.Moves.{Polls}
use Rattle.scatter_gather.specs.Gathering.{Source, source_of, sources_of}
use Rattle.scatter_gather.specs.Due.{is_empty, is_idle, is_least, may_have_next, any_may_have_next, least_floor, todo}
use Rattle.scatter_gather.specs.Polling.{PollsAll}

at_most_one : (b : Bool) → cond {A = ℕ} b 1 0 ≤ 1
at_most_one true = omega arith
at_most_one false = omega arith

some_wait : (hits : List Hit) → 1 ≤ length hits → is_empty hits ≡ false
some_wait [] l = absurd (omega arith)
some_wait (hit ∷ hits) l = refl

-- a poll of an idle source leaves less to do
pub polled_todo : (a : Asked) (old new : Standing) (budget from to : ℕ) (answer : Polled)
    → Polls budget a old new from to answer → IsLawful a new → 1 ≤ a.room → is_idle old ≡ true
    → new.units + cond {A = ℕ} (is_idle new) 1 0 < old.units + cond {A = ℕ} (is_idle old) 1 0
polled_todo a old new budget from to Moved polls law room idle =
    let one : cond {A = ℕ} (is_idle old) 1 0 ≡ 1 = rw idle in
    omega (arith, polls.spends.moved refl, at_most_one (is_idle new), one)
polled_todo a old new budget from to Full polls law room idle =
    let one : cond {A = ℕ} (is_idle old) 1 0 ≡ 1 = rw idle in
    let wait : is_empty new.waiting ≡ false =
    some_wait new.waiting (omega (arith, (polls.answers.full.0 refl).1, room)) in
    let none : cond {A = ℕ} (is_idle new) 1 0 ≡ 0 = rw wait in
    omega (arith, polls.spends.units, one, none)
polled_todo a old new budget from to Ended polls law room idle =
    let one : cond {A = ℕ} (is_idle old) 1 0 ≡ 1 = rw idle in
    omega (arith, polls.spends.units, one, by_waiting new.waiting refl)
  where
    ended : new.ended ≡ true
    ended = polls.answers.ended.0 refl

    by_waiting : (waiting : List Hit) → new.waiting ≡ waiting → cond {A = ℕ} (is_idle new) 1 0 ≡ 0
    by_waiting [] empty =
        let all : new.given ≡ length a.hits = omega (arith, law.end.all_reached ended, ap length empty) in
        rw (law.floor.none_left.1 (all, ended), empty)
    by_waiting (hit ∷ rest) some = rw some

-- where no term of a sum is greater the sum isn't
sum_at_most : {S : Type 0} (f : S → ℕ) (xs ys : List S) → length ys ≡ length xs
    → ((i : ℕ) (d : S) → i < length xs → f (get_or ys i d) ≤ f (get_or xs i d)) → sum_by f ys ≤ sum_by f xs
sum_at_most f [] [] same all = omega arith
sum_at_most f [] (y ∷ ys) same all = absurd (omega arith)
sum_at_most f (x ∷ xs) [] same all = absurd (omega arith)
sum_at_most f (x ∷ xs) (y ∷ ys) same all =
    omega (
      arith,
      sum_by-cons f x xs,
      sum_by-cons f y ys,
      all 0 x (omega arith),
      sum_at_most f xs ys (omega arith)
          (λ i d within. all (suc i) d (omega arith)),
    )

-- where no term of a sum is greater, and one is less, the sum is less
pub sum_less : {S : Type 0} (f : S → ℕ) (xs ys : List S) (k : ℕ) → length ys ≡ length xs
    → ((i : ℕ) (d : S) → i < length xs → f (get_or ys i d) ≤ f (get_or xs i d)) → k < length xs
    → ((d : S) → f (get_or ys k d) < f (get_or xs k d)) → sum_by f ys < sum_by f xs
sum_less f [] ys k same all l less = absurd (omega arith)
sum_less f (x ∷ xs) [] k same all l less = absurd (omega arith)
sum_less f (x ∷ xs) (y ∷ ys) zero same all l less =
    omega (
      arith,
      sum_by-cons f x xs,
      sum_by-cons f y ys,
      less x,
      sum_at_most f xs ys (omega arith)
          (λ i d within. all (suc i) d (omega arith)),
    )
sum_less f (x ∷ xs) (y ∷ ys) (suc k) same all l less =
    omega (
      arith,
      sum_by-cons f x xs,
      sum_by-cons f y ys,
      all 0 x (omega arith),
      sum_less f xs ys k (omega arith)
          (λ i d within. all (suc i) d (omega arith)) (omega arith) less,
    )

-- a test that passes for some passes at some place
pub any_where : {S : Type 0} (p : S → Bool) (xs : List S) → list_any p xs ≡ true
    → (i : ℕ) × (i < length xs) × ((d : S) → p (get_or xs i d) ≡ true)
any_where p [] e = cc
any_where p (x ∷ xs) e = elim (or_cases (p x) (list_any p xs) e) [
  | inl first ↦ (0, omega arith, λ d. first)
  | inr later ↦ let at = any_where p xs later in (suc at.0, omega (arith, at.1), λ d. at.2 d)
]

has_floor : (floor least : Option ℕ) → is_least floor least ≡ true → is_some floor ≡ true
has_floor None least e = cc
has_floor (Some floor) least e = refl

-- a source that may have the next hit is idle
pub idle_if_next : (least : Option ℕ) (s : Source) → may_have_next least s ≡ true → is_idle s.standing ≡ true
idle_if_next least s may =
    let both = and_parts (is_empty s.standing.waiting) (is_least s.standing.floor least) may in
    rw (both.0, has_floor s.standing.floor least both.1)

pub some_of : {S : Type 0} (xs : List S) (i : ℕ) → i < length xs → S
some_of [] i l = absurd (omega arith)
some_of (x ∷ xs) i l = x

-- a round of polls where some source may have the next hit leaves less to do
pub round_todo : {S : Type 0} (asks : S → Asked) (stands : S → Standing) (budget : ℕ) (old new : List S)
    (from to : List ℕ) → ((x : S) → IsLawful (asks x) (stands x))
    → any_may_have_next (sources_of asks stands old) ≡ true → PollsAll asks stands budget old new from to
    → sum_by todo (sources_of asks stands new) < sum_by todo (sources_of asks stands old)
round_todo {S = S} asks stands budget old new from to law any polls =
    let at = any_where (may_have_next least) all any in
    sum_less todo all (map f new) at.0 (omega (arith, polls.count, size, length-map new f))
    (λ i d within. step i d within) at.1 (λ d. less at.0 d at.1 (at.2 d))
  where
    f : S → Source
    f = source_of asks stands

    all : List Source
    all = map f old

    least : Option ℕ
    least = least_floor all

    size : length all ≡ length old
    size = length-map old f

    room : (i : ℕ) (e : S) → i < length old → 1 ≤ (asks (get_or old i e)).room
    room i e within = (law (get_or old i e)).asked.some_room

    here_old : (i : ℕ) (d : Source) (e : S) → i < length old → get_or all i d ≡ f (get_or old i e)
    here_old i d e within = get_or-map f old i e d within

    here_new : (i : ℕ) (d : Source) (e : S) → i < length old → get_or (map f new) i d ≡ f (get_or new i e)
    here_new i d e within = get_or-map f new i e d (omega (arith, within, polls.count))

    at_once : (i : ℕ) (e : S) → i < length old → may_have_next least (f (get_or old i e)) ≡ true
        → todo (f (get_or new i e)) < todo (f (get_or old i e))
    at_once i e within may =
        let one = MatchBool-at_true _ _ may (polls.at i e within) in
        let lawful : IsLawful (asks (get_or old i e)) (stands (get_or new i e)) =
        subst (λ a. IsLawful a (stands (get_or new i e))) one.asked (law (get_or new i e)) in
        polled_todo (asks (get_or old i e)) (stands (get_or old i e))
        (stands (get_or new i e)) budget _ _ one.answer one.polls lawful (room i e within)
        (idle_if_next least (f (get_or old i e)) may)

    less : (i : ℕ) (d : Source) → i < length all → may_have_next least (get_or all i d) ≡ true
        → todo (get_or (map f new) i d) < todo (get_or all i d)
    less i d within may =
        let l : i < length old = omega (arith, within, size) in
        let e : S = some_of old i l in
        rw (here_new i d e l, here_old i d e l) (at_once i e l (rw (here_old i d e l) at may))

    step : (i : ℕ) (d : Source) → i < length all → todo (get_or (map f new) i d) ≤ todo (get_or all i d)
    step i d within =
        let l : i < length old = omega (arith, within, size) in
        let e : S = some_of old i l in
        rw (here_new i d e l, here_old i d e l) (
        elim (cases_Bool (may_have_next least (f (get_or old i e)))) [
          | inl may ↦ (let less = at_once i e l may in omega (arith, less))
          | inr held ↦ (let same = (MatchBool-at_false _ _ held (polls.at i e l)).0 in
              omega (arith, ap (λ x. todo (f x)) same))
        ]
        )
