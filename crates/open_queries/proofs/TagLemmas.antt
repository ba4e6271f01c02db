-- Lemmas on queries of which no two have one tag.
use Rattle.std.proofs.Common.{◌≡◌, ℕ, zero, suc, ◌+◌, ◌≤◌, ◌<◌, Bool, true, false, List, [], ◌∷◌, ◌++◌, length, take, drop, get_or, set}
use Rattle.std.proofs.Common.{refl, sym, ap, ◌∙◌, subst, arith}
use Rattle.std.specs.Str.{bytes_eq}
use Rattle.std.proofs.lemmas.Slice.Eq.{bytes_eq-Decides}
use Rattle.hit_source.specs.Sources.{Asked, Standing}
use Rattle.scatter_gather.proofs.GiveLemmas.{all_append}
use Rattle.open_queries.specs.declared.open_query.OpenQuery.{OpenQuery}
use Rattle.open_queries.specs.Queries.{IsFree, IsFirstAt, Removes}
use Rattle.open_queries.specs.Kept.{HaveOwnTags, IsKept, AreKept}
use Rattle.open_queries.proofs.QueryLemmas.{kept_set, kept_more, kept_without}
use Rattle.open_queries.proofs.PlaceLemmas.{parted_at}

other_way : (a b : List ℕ) (same : Bool) → bytes_eq b a ≡ same → bytes_eq a b ≡ false → bytes_eq b a ≡ false
other_way a b false is differs = is
other_way a b true is differs =
    let equal : b ≡ a = (bytes_eq-Decides b a).0 is in
    let again : bytes_eq a b ≡ true = (bytes_eq-Decides a b).1 (sym equal) in
    let never : true ≡ false = sym again ∙ differs in cc

free_set : {S : Type 0} (queries : List (OpenQuery S)) (place : ℕ) (after d : OpenQuery S) (tag : List ℕ)
    → after.tag ≡ (get_or queries place d).tag → IsFree queries tag → IsFree (set queries place after) tag
free_set [] place after d tag same free = tt
free_set (query ∷ queries) zero after d tag same free = (ap (λ t. bytes_eq t tag) same ∙ free.0, free.1)
free_set (query ∷ queries) (suc place) after d tag same free = (free.0, free_set queries place after d tag same free.1)

-- a query of the same tag in the place of one
pub own_set : {S : Type 0} (queries : List (OpenQuery S)) (place : ℕ) (after d : OpenQuery S)
    → after.tag ≡ (get_or queries place d).tag → HaveOwnTags queries → HaveOwnTags (set queries place after)
own_set [] place after d same own = tt
own_set (query ∷ queries) zero after d same own = (subst (IsFree queries) (sym same) own.0, own.1)
own_set (query ∷ queries) (suc place) after d same own =
    (free_set queries place after d query.tag same own.0, own_set queries place after d same own.1)

free_behind : {S : Type 0} (queries : List (OpenQuery S)) (last : OpenQuery S) (tag : List ℕ) → IsFree queries tag
    → bytes_eq last.tag tag ≡ false → IsFree (queries ++ last ∷ []) tag
free_behind [] last tag free differs = (differs, tt)
free_behind (query ∷ queries) last tag free differs = (free.0, free_behind queries last tag free.1 differs)

-- a query of a free tag behind the others
pub own_more : {S : Type 0} (queries : List (OpenQuery S)) (last : OpenQuery S) → HaveOwnTags queries
    → IsFree queries last.tag → HaveOwnTags (queries ++ last ∷ [])
own_more [] last own free = (tt, tt)
own_more (query ∷ queries) last own free = (
  free_behind queries last query.tag own.0
      (other_way query.tag last.tag (bytes_eq last.tag query.tag) refl free.0),
  own_more queries last own.1 free.1,
)

own_later : {S : Type 0} (queries : List (OpenQuery S)) (n : ℕ) → HaveOwnTags queries → HaveOwnTags (drop n queries)
own_later queries zero own = own
own_later [] (suc n) own = tt
own_later (query ∷ queries) (suc n) own = own_later queries n own.1

-- one query less
pub own_without : {S : Type 0} (queries : List (OpenQuery S)) (n m : ℕ) → n ≤ m → HaveOwnTags queries
    → HaveOwnTags (take n queries ++ drop m queries)
own_without queries zero m l own = own_later queries m own
own_without queries (suc n) zero l own = absurd (omega (arith, l))
own_without [] (suc n) (suc m) l own = tt
own_without (query ∷ queries) (suc n) (suc m) l own = (
  kept_without (λ (other : OpenQuery _). bytes_eq other.tag query.tag ≡ false) queries n m own.0,
  own_without queries n m (omega (arith, l)) own.1,
)

free_after : {S : Type 0} (queries : List (OpenQuery S)) (place : ℕ) (d : OpenQuery S) → place < length queries
    → HaveOwnTags queries → IsFree (drop (suc place) queries) (get_or queries place d).tag
free_after [] place d within own = absurd (omega (arith, within))
free_after (query ∷ queries) zero d within own = own.0
free_after (query ∷ queries) (suc place) d within own = free_after queries place d (omega (arith, within)) own.1

-- the tag of a query that was taken out is free
pub freed_at : {S : Type 0} (queries : List (OpenQuery S)) (tag : List ℕ) (place : ℕ) (d : OpenQuery S)
    → IsFirstAt queries tag place → HaveOwnTags queries → IsFree (take place queries ++ drop (place + 1) queries) tag
freed_at queries tag place d at own =
    let next : suc place ≡ place + 1 = omega arith in
    all_append _ (take place queries) (drop (place + 1) queries) at.is_first
    (subst (λ n. IsFree (drop n queries) tag) next
    (subst (IsFree (drop (suc place) queries)) (at.has_tag d) (free_after queries place d at.within own)))

-- the query of a tag was taken out
pub removes_at : {S : Type 0} (queries : List (OpenQuery S)) (tag : List ℕ) (place : ℕ) (before : OpenQuery S)
    (new : List (OpenQuery S)) → HaveOwnTags queries → IsFirstAt queries tag place → before ≡ get_or queries place before
    → new ≡ take place queries ++ drop (place + 1) queries → Removes queries new tag before
removes_at queries tag place before new own at is parts = record {
  front = take place queries;
  back = drop (place + 1) queries;
  old_is = parted_at queries place before at.within
      ∙ ap (λ h. take place queries ++ h ∷ drop (place + 1) queries) (sym is);
  new_is = parts;
  is_first = at.is_first;
  freed = subst (λ l. IsFree l tag) (sym parts) (freed_at queries tag place before at own);
  has_tag = ap (λ h. h.tag) is ∙ at.has_tag before;
}

-- ---- what is true of all of them

-- a query was changed
pub all_set : {S : Type 0} (asks : S → Asked) (stands : S → Standing) (queries : List (OpenQuery S)) (place : ℕ)
    (after before : OpenQuery S) → AreKept asks stands queries → before ≡ get_or queries place before
    → after.tag ≡ before.tag → IsKept asks stands after → AreKept asks stands (set queries place after)
all_set asks stands queries place after before all is tag kept = record {
  each = kept_set (IsKept asks stands) queries place after all.each kept;
  own = own_set queries place after before (tag ∙ ap (λ q. q.tag) is) all.own;
}

-- a query was opened
pub all_more : {S : Type 0} (asks : S → Asked) (stands : S → Standing) (queries : List (OpenQuery S))
    (last : OpenQuery S) → AreKept asks stands queries → IsFree queries last.tag → IsKept asks stands last
    → AreKept asks stands (queries ++ last ∷ [])
all_more asks stands queries last all free kept = record {
  each = kept_more (IsKept asks stands) queries last all.each kept;
  own = own_more queries last all.own free;
}

-- a query was taken out
pub all_without : {S : Type 0} (asks : S → Asked) (stands : S → Standing) (queries : List (OpenQuery S)) (place : ℕ)
    → AreKept asks stands queries → AreKept asks stands (take place queries ++ drop (place + 1) queries)
all_without asks stands queries place all = record {
  each = kept_without (IsKept asks stands) queries place (place + 1) all.each;
  own = own_without queries place (place + 1) (omega arith) all.own;
}
