-- Lists seen through a function of their elements, one of which is replaced.
use Rattle.std.proofs.Common.{◌≡◌, ℕ, ◌+◌, ◌<◌, List, [], ◌∷◌, ◌++◌, length, take, map, set, get_or, refl, sym, ap, ◌∙◌, arith, Vec, Global}
use Rattle.std.proofs.lemmas.List.{get_or-map, get_or-set_same, length-map, map-append, map-set, take_more}
use Rattle.std.proofs.Math.Seq.{map-set_same}

-- what a list holds
abbrev pub items_of : Vec (ℕ × List ℕ) Global → List (ℕ × List ℕ)
items_of list = list.items

module _ {X Y : Type 0} (f : X → Y) (xs : List X) (ys : List Y) (i : ℕ) (own : X) (seen : map f xs ≡ ys) (own_is : own ≡ get_or xs i own) where
  -- the element is seen at its place
  pub seen_at : (other : Y) → i < length ys → get_or ys i other ≡ f own
  seen_at other below =
      let long = length-map xs f in
      let number : length (map f xs) ≡ length ys = ap length seen in
      let inside : i < length xs = omega arith in
      rw (← seen) (get_or-map f xs i own other inside ∙ ap f (sym own_is))

  -- an element in whose place another stands
  pub seen_changed : (new : X) (other : Y) → i < length ys → get_or (map f (set xs i new)) i other ≡ f new
  seen_changed new other below =
      let long = length-map xs f in
      let number : length (map f xs) ≡ length ys = ap length seen in
      let inside : i < length (map f xs) = omega arith in
      rw (map-set f xs i new) (get_or-set_same (map f xs) i (f new) other inside)

  -- changes what is seen there
  pub only_one_changed : (new : X) (other : Y) → i < length ys → map f (set xs i new) ≡ set ys i (get_or (map f (set xs i new)) i other)
  only_one_changed new other below = rw (seen_changed new other below, ← seen, map-set f xs i new) refl

  -- an element in whose place another stands, of which f gives something else
  pub map_changed : (new : X) (other : Y) (g : Y → Y) → i < length ys → f new ≡ g (f own) → map f (set xs i new) ≡ set ys i (g (get_or ys i other))
  map_changed new other g below same = rw (seen_at other below, ← seen, map-set f xs i new, same) refl

  -- and of which f gives the same
  pub map_kept : (new : X) → f new ≡ f own → map f (set xs i new) ≡ ys
  map_kept new same = rw (map-set_same f xs i new own (same ∙ ap f own_is)) seen

-- one element more
pub map_more : {X Y : Type 0} (f : X → Y) (xs done : List X) (i : ℕ) (own new : X) → i < length xs → own ≡ get_or xs i own → f new ≡ f own
    → map f done ≡ take i (map f xs) → map f (done ++ new ∷ []) ≡ take (i + 1) (map f xs)
map_more f xs done i own new below is same before =
    let long = length-map xs f in
    let inside : i < length (map f xs) = omega arith in
    let item : f new ≡ get_or (map f xs) i (f own) = same ∙ ap f is ∙ sym (get_or-map f xs i own (f own) below) in
    rw (map-append f done (new ∷ []), before, take_more (map f xs) i (f own) inside, item) refl
