-- Lemmas on the place of a tag's query among the others.
use Rattle.std.proofs.Common.{◌≡◌, ℕ, suc, ◌+◌, ◌≤◌, ◌<◌, Bool, true, false, List, [], ◌∷◌, ◌++◌}
use Rattle.std.proofs.Common.{length, take, drop, slice_index_or, slice_set, refl, sym, ap, ◌∙◌}
use Rattle.std.proofs.Common.{subst, arith, take-append-drop}
use Rattle.std.specs.Prelude.{IsTrue}
use Rattle.std.specs.Str.{bytes_eq}
use Rattle.std.proofs.lemmas.Slice.Eq.{bytes_eq-Decides}
use Rattle.std.proofs.lemmas.List.{drop_more, take_more, get_or_default, set_split, take_all}
use Rattle.open_queries.specs.declared.open_query.OpenQuery.{OpenQuery}
use Rattle.open_queries.specs.Queries.{IsFree, IsFirstAt, Changes}

-- ---- tags

differs_by : (name tag : List ℕ) (same : Bool) → bytes_eq name tag ≡ same
    → (name ≡ tag → IsTrue false) → bytes_eq name tag ≡ false
differs_by name tag true is never = let so : IsTrue false = never
    ((bytes_eq-Decides name tag).0 is) in cc
differs_by name tag false is never = is

pub differs : (name tag : List ℕ) (matches : Bool) → (name ≡ tag → IsTrue matches) → matches ≡ false
    → bytes_eq name tag ≡ false
differs name tag true tells is = let never : true ≡ false = is in cc
differs name tag false tells is = differs_by name tag (bytes_eq name tag) refl tells

-- ---- places

module _ {S : Type 0} (queries : List (OpenQuery S)) (place : ℕ) (other : OpenQuery S)
    (within : place < length queries) where
  pub parted_at : queries ≡ take place queries ++ slice_index_or queries place other ∷ drop
      (place + 1) queries
  parted_at = sym (take-append-drop place queries)
      ∙ ap (λ l. take place queries ++ l) (drop_more queries place other within)

  pub set_parted : (after : OpenQuery S)
      → slice_set queries place after ≡ take place queries ++ after ∷ drop (place + 1) queries
  set_parted after =
      let next : suc place ≡ place + 1 = omega arith in
      set_split queries place after within
      ∙ ap (λ n. take place queries ++ after ∷ drop n queries) next

free_then : {S : Type 0} (front : List (OpenQuery S)) (query : OpenQuery S) (tag : List ℕ)
    → IsFree front tag → bytes_eq query.tag tag ≡ false → IsFree (front ++ query ∷ []) tag
free_then [] query tag free differs = (differs, tt)
free_then (first ∷ front) query tag free differs =
    (free.0, free_then front query tag free.1 differs)

-- one place more was looked at
pub free_more : {S : Type 0} (queries : List (OpenQuery S)) (place : ℕ) (query : OpenQuery S)
    (tag : List ℕ) → place < length queries → IsFree (take place queries) tag
    → bytes_eq (slice_index_or queries place query).tag tag ≡ false
    → IsFree (take (place + 1) queries) tag
free_more queries place query tag within free differs =
    subst (λ l. IsFree l tag) (sym (take_more queries place query within))
    (free_then (take place queries) (slice_index_or queries place query) tag free differs)

pub free_all : {S : Type 0} (queries : List (OpenQuery S)) (place : ℕ) (tag : List ℕ)
    → length queries ≤ place → IsFree (take place queries) tag → IsFree queries tag
free_all queries place tag all free = subst (λ l. IsFree l tag) (take_all place queries all) free

pub first_at : {S : Type 0} (queries : List (OpenQuery S)) (place : ℕ) (query : OpenQuery S)
    (tag : List ℕ) → place < length queries → IsFree (take place queries) tag
    → (slice_index_or queries place query).tag ≡ tag → IsFirstAt queries tag place
first_at {S} queries place query tag within free has_tag = record {
  within = within;
  is_first = free;
  has_tag = λ other. ap (λ (h : OpenQuery S). h.tag)
      (get_or_default queries place other query within) ∙ has_tag;
}

-- the query of a tag was written over
pub changes_at : {S : Type 0} (queries : List (OpenQuery S)) (tag : List ℕ) (place : ℕ)
    (before after : OpenQuery S) → IsFirstAt queries tag place
    → before ≡ slice_index_or queries place before
    → Changes queries (slice_set queries place after) tag before after
changes_at queries tag place before after at is = record {
  front = take place queries;
  back = drop (place + 1) queries;
  old_is = parted_at queries place before at.within
      ∙ ap (λ h. take place queries ++ h ∷ drop (place + 1) queries) (sym is);
  new_is = set_parted queries place before at.within after;
  is_first = at.is_first;
  has_tag = ap (λ h. h.tag) is ∙ at.has_tag before;
}
