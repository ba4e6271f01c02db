-- Polls of two parts are polls of the whole.
use Rattle.std.proofs.Common.{◌≡◌, ◌≤◌, ◌-◌, ◌+◌, Bool, true, false, ℕ, List, [], ◌∷◌, ◌++◌, length, get_or, inl, inr, refl, arith, ap, subst, sym, ◌∙◌, take, drop, map}
use Rattle.std.specs.Bool.{MatchBool}
use Rattle.std.proofs.lemmas.List.{get_or_append_left, get_or-append_right, take-append-drop, length-take-le, length-append, length-drop, length-map, get_or-map, get_or-take, get_or-drop, take_at}
use Rattle.std.proofs.lemmas.Bool.{cases_lt, and_parts}
use Rattle.hamming_model.specs.declared.hit.Hit.{Hit}
use Rattle.hit_source.specs.Sources.{Asked, Standing}
use Rattle.scatter_gather.specs.Gathering.{source_of, sources_of}
use Rattle.scatter_gather.specs.Due.{is_empty, may_have_next, least_floor}
use Rattle.scatter_gather.specs.Polling.{PollsOnce, EachMarked, MarkedAreEmpty, IsMarked, PollsAll}

parts : {S : Type 0} (R : S → ℕ → S → ℕ → Type 0) (n : ℕ) (qs rs : List Bool) (hs bs hs' bs' : List S)
    (ss ts ss' ts' : List ℕ)
    → length hs ≡ n → length qs ≡ n → length ss ≡ n → length hs' ≡ n → length ss' ≡ n
    → EachMarked R qs hs ss hs' ss' → EachMarked R rs bs ts bs' ts'
    → EachMarked R (qs ++ rs) (hs ++ bs) (ss ++ ts) (hs' ++ bs') (ss' ++ ts')
parts R n qs rs hs bs hs' bs' ss ts ss' ts' k q e f g front back = record {
  at = λ i d within.
      elim (cases_lt i n) [
        | inl low ↦ rw (
          get_or_append_left qs rs false i (omega (arith, low, q)),
          get_or_append_left hs bs d i
              (omega (arith, low, k)),
          get_or_append_left ss ts 0 i (omega (arith, low, e)),
          get_or_append_left hs' bs' d i
              (omega (arith, low, f)),
          get_or_append_left ss' ts' 0 i (omega (arith, low, g)),
        )
            (front.at i d (omega (arith, low, k)))
        | inr high ↦ rw (
          get_or-append_right qs rs n i false q high,
          get_or-append_right hs bs n i d k high,
          get_or-append_right ss ts n i 0 e high,
          get_or-append_right hs' bs' n i d f high,
          get_or-append_right ss' ts' n i 0 g high,
        )
            (back.at (i - n) d (omega (arith, within, high, k, length-append hs bs)))
      ];
}

-- the same of the two parts at a place
pub marked_joined : {S : Type 0} (R : S → ℕ → S → ℕ → Type 0) (n : ℕ) (qs : List Bool) (hs hs' bs' : List S)
    (ss ss' ts' : List ℕ)
    → length ss ≡ length hs → length qs ≡ length hs → n ≤ length hs → length hs' ≡ n → length ss' ≡ n
    → EachMarked R (take n qs) (take n hs) (take n ss) hs' ss'
    → EachMarked R (drop n qs) (drop n hs) (drop n ss) bs' ts'
    → EachMarked R qs hs ss (hs' ++ bs') (ss' ++ ts')
marked_joined R n qs hs hs' bs' ss ss' ts' e q le f g front back =
    let whole = parts R n (take n qs) (drop n qs) (take n hs) (drop n hs) hs' bs' (take n ss) (drop n ss) ss' ts'
    (length-take-le n hs le) (length-take-le n qs (omega (arith, q, le)))
    (length-take-le n ss (omega (arith, e, le))) f g front back in
    rw (take-append-drop n ss) at (rw (take-append-drop n hs) at (rw (take-append-drop n qs) at whole))

nothing_waits : (hits : List Hit) → is_empty hits ≡ true → hits ≡ []
nothing_waits [] e = refl
nothing_waits (hit ∷ hits) e = cc

-- no hit waits at a source that may have the next hit
pub marked_empty : {S : Type 0} (asks : S → Asked) (stands : S → Standing) (hs : List S) (marks : List Bool)
    → IsMarked (sources_of asks stands hs) marks → MarkedAreEmpty stands marks hs
marked_empty asks stands hs marks is = record {
  at = λ i d within marked.
      let f = source_of asks stands in
      let size : length (map f hs) ≡ length hs = length-map hs f in
      let may = is.at i (f d) (omega (arith, within, size)) in
      let here : get_or (map f hs) i (f d) ≡ f (get_or hs i d) = get_or-map f hs i d (f d) within in
      let both : may_have_next (least_floor (map f hs)) (f (get_or hs i d)) ≡ true =
      sym (may ∙ ap (may_have_next (least_floor (map f hs))) here) ∙ marked in
      nothing_waits _ (and_parts _ _ both).0;
}

-- the ledgers, of which the first were lent
pub lent_back : (n : ℕ) (from ours to : List ℕ) → length ours ≡ n → n ≤ length from
    → to ≡ take (length from) (ours ++ drop n from ++ drop (length (ours ++ drop n from)) from)
    → to ≡ ours ++ drop n from
lent_back n from ours to l within e =
    let size : length (ours ++ drop n from) ≡ length from =
    omega (arith, length-append ours (drop n from), length-drop n from, l, within) in
    e ∙ take_at (ours ++ drop n from) (drop (length (ours ++ drop n from)) from) (length from) size

-- the polls of the marked sources are the polls of those that may have the next hit
pub polls_all : {S : Type 0} (asks : S → Asked) (stands : S → Standing) (budget n : ℕ) (hs hs' : List S)
    (from ours to : List ℕ) (marks : List Bool) → IsMarked (sources_of asks stands hs) marks
    → length hs ≡ n → length hs' ≡ n → n ≤ length from → length ours ≡ n → to ≡ ours ++ drop n from
    → EachMarked (PollsOnce asks stands budget) marks hs (take n from) hs' ours
    → PollsAll asks stands budget hs hs' from to
polls_all {S = S} asks stands budget n hs hs' from ours to marks is l l' fits size restored each = record {
  count = omega (arith, l, l');
  at = λ i d within.
      let f = source_of asks stands in
      let marked = is.at i (f d) (omega (arith, within, length-map hs f)) in
      let here : get_or (map f hs) i (f d) ≡ f (get_or hs i d) = get_or-map f hs i d (f d) within in
      let test : get_or marks i false ≡ may_have_next (least_floor (map f hs)) (f (get_or hs i d)) = marked
      ∙ ap (may_have_next (least_floor (map f hs))) here in
      let low : get_or (take n from) i 0 ≡ get_or from i 0 = get_or-take n from i 0 (omega (arith, within, l)) in
      let high : get_or to i 0 ≡ get_or ours i 0 = ap (λ xs. get_or xs i 0) restored
      ∙ get_or_append_left ours (drop n from) 0 i (omega (arith, within, l, size)) in
      subst (λ m. MatchBool m (PollsOnce asks stands budget (get_or hs i d) (get_or from i 0) (get_or hs' i d)
      (get_or to i 0)) ((get_or hs' i d ≡ get_or hs i d) × (get_or to i 0 ≡ get_or from i 0))) test
      (rw (high, ← low) (each.at i d within));
  beyond = λ i past.
      ap (λ xs. get_or xs i 0) restored ∙ get_or-append_right ours (drop n from) n i 0 size (omega (arith, past, l))
      ∙ get_or-drop n from (i - n) 0 ∙ ap (λ k. get_or from k 0) (let e : n + (i - n) ≡ i = omega (arith, past, l) in e);
}
