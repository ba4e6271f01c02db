-- Lemmas on the layouts that a session has in memory: one query more, whose layouts are compared with the last of their shards.
use Rattle.std.proofs.Common.{◌≡◌, ℕ, zero, suc, ◌+◌, ◌<◌, ◌≤◌, ◌==◌, min, false, cond}
use Rattle.std.proofs.Common.{List, [], ◌∷◌, ◌++◌, length, map, take, drop, slice_index_or, Option, Some, None}
use Rattle.std.proofs.Common.{refl, sym, ap, ◌∙◌, subst, arith, inl, inr, append_assoc, length-append}
use Rattle.std.specs.List.{AllByRecursion}
use Rattle.std.specs.Option.{option_or}
use Rattle.std.specs.declared.alloc.Global.{Global}
use Rattle.std.specs.declared.sync.Arc.{Arc}
use Rattle.std.proofs.lemmas.Bool.{eq-eqb, ne_eqb}
use Rattle.std.proofs.lemmas.List.{map-append}
use Rattle.shard_version.specs.Tables.{Tabled}
use Rattle.versioned_shard.specs.Shards.{contents_at}
use Rattle.query_opening.specs.Pinning.{contents_of_all}
use Rattle.session_model.specs.Ledger.{layout_at}
use Rattle.session_model.specs.Told.{ShardLayouts, ToldLayout, is_same_layout, last_told, layout_from, pinned_anew, told_from}
use Rattle.session_model.proofs.ToldLemmas.{IsLastOr, last_append, last_pinned, told_last, told_more}
use Rattle.open_session.specs.declared.pinned_layouts.LayoutFrom.{LayoutFrom}
use Rattle.open_session.specs.Pinned.{PinnedSoFar, PinsMore, has_told, layouts_in, told_layout, told_next}

-- ---- the last that is told of a shard

take_one_more : {X : Type 0} (xs : List X) (i : ℕ) (d : X) → i < length xs
    → take (suc i) xs ≡ take i xs ++ slice_index_or xs i d ∷ []
take_one_more [] i d lt = absurd (omega (arith, lt))
take_one_more (x ∷ xs) zero d lt = refl
take_one_more (x ∷ xs) (suc i) d lt = ap (λ l. x ∷ l) (take_one_more xs i d (omega (arith, lt)))

-- the items up to one that stands at a place
pub up_to_item : (told : List LayoutFrom) (left i : ℕ) (item : LayoutFrom) → left ≡ suc i → i < length told
    → item ≡ slice_index_or told i item → take left told ≡ take i told ++ item ∷ []
up_to_item told left i item here lt is =
    ap (λ n. take n told) here ∙ take_one_more told i item lt ∙ ap (λ x. take i told ++ x ∷ []) (sym is)

module _ (told : List LayoutFrom) (left i : ℕ) (item : LayoutFrom) (is : take left told ≡ take i told ++ item ∷ [])
    (shard : ℕ) where
  abbrev before : Option (List (List ℕ))
  before = last_told shard (map told_layout (take i told))

  told_front : last_told shard (map told_layout (take left told))
      ≡ option_or (cond (item.shard == shard) (Some (told_layout item).layout) None) before
  told_front =
      ap (λ l. last_told shard (map told_layout l)) is
      ∙ ap (last_told shard) (map-append told_layout (take i told) (item ∷ []))
      ∙ last_append shard (map told_layout (take i told)) (told_layout item ∷ [])

  -- an item of another shard isn't the last
  pub other_item : (item.shard ≡ shard → ⊥) → last_told shard (map told_layout (take left told)) ≡ before
  other_item differs =
      told_front ∙ ap (λ b. option_or (cond b (Some (told_layout item).layout) None) before) (ne_eqb item.shard shard differs)

  -- one of the shard is
  pub own_item : item.shard ≡ shard
      → last_told shard (map told_layout (take left told)) ≡ Some (told_layout item).layout
  own_item same =
      told_front ∙ ap (λ b. option_or (cond b (Some (told_layout item).layout) None) before) (eq-eqb item.shard shard same)

-- the last that is told, by whether there is one
pub has_by : (items : List ToldLayout) (shard : ℕ) (layout : List (List ℕ)) (last : Option (List (List ℕ)))
    → last_told shard items ≡ last
    → has_told items shard layout ≡ elim last [ None ↦ false | Some l ↦ is_same_layout l layout ]
has_by items shard layout last is =
    ap (λ (o : Option (List (List ℕ))). elim o [ None ↦ false | Some l ↦ is_same_layout l layout ]) is

-- ---- one query more, shard by shard

-- what is told of the layouts that a query pinned from a shard on, behind this
abbrev pub told_of_all : List ToldLayout → ℕ → ℕ → ShardLayouts → List ToldLayout
told_of_all items query from [] = []
told_of_all items query from (layout ∷ layouts) =
    told_next items query from layout ++ told_of_all items query (suc from) layouts

-- the layouts of versions from one on
pub layouts_from : (versions : List (Arc Tabled Global)) (i : ℕ) (d : Arc Tabled Global) → i < length versions
    → drop i (layouts_in (contents_of_all versions))
    ≡ (contents_at (slice_index_or versions i d)).layout.parts ∷ drop (suc i) (layouts_in (contents_of_all versions))
layouts_from [] i d lt = absurd (omega (arith, lt))
layouts_from (version ∷ versions) zero d lt = refl
layouts_from (version ∷ versions) (suc i) d lt = layouts_from versions i d (omega (arith, lt))

pub no_layouts_from : (versions : List (Arc Tabled Global)) (i : ℕ) → length versions ≤ i
    → drop i (layouts_in (contents_of_all versions)) ≡ []
no_layouts_from [] zero le = refl
no_layouts_from [] (suc i) le = refl
no_layouts_from (version ∷ versions) zero le = absurd (omega (arith, le))
no_layouts_from (version ∷ versions) (suc i) le = no_layouts_from versions i (omega (arith, le))

-- one shard more
pub told_shard : (now before items : List ToldLayout) (query shard : ℕ) (layout : List (List ℕ)) (rest all : ShardLayouts)
    → all ≡ layout ∷ rest → now ≡ before ++ told_next items query shard layout
    → now ++ told_of_all items query (suc shard) rest ≡ before ++ told_of_all items query shard all
told_shard now before items query shard layout rest all is added =
    ap (λ l. l ++ told_of_all items query (suc shard) rest) added
    ∙ append_assoc before (told_next items query shard layout) (told_of_all items query (suc shard) rest)
    ∙ ap (λ l. before ++ told_of_all items query shard l) (sym is)

-- where nothing is told yet, all is
none_told : (query from : ℕ) (layouts : ShardLayouts) → told_of_all [] query from layouts ≡ pinned_anew query from [] layouts
none_told query from [] = refl
none_told query from (layout ∷ layouts) =
    ap (λ l. layout_from query from layout ∷ l) (none_told query (suc from) layouts)

-- else what isn't the last of its shard is
told_behind : (items : List ToldLayout) (query from : ℕ) (before layouts : ShardLayouts) → length before ≡ length layouts
    → ((place : ℕ) → place < length before → last_told (from + place) items ≡ Some (layout_at before place))
    → told_of_all items query from layouts ≡ pinned_anew query from before layouts
told_behind items query from [] [] same last = refl
told_behind items query from [] (layout ∷ layouts) same last = absurd (omega (arith, same))
told_behind items query from (first ∷ before) [] same last = absurd (omega (arith, same))
told_behind items query from (first ∷ before) (layout ∷ layouts) same last =
    let here : from + 0 ≡ from = omega arith in
    let is = has_by items from layout (Some first)
    (subst (λ n. last_told n items ≡ Some first) here (last 0 (omega arith))) in
    ap (λ b. cond b [] (layout_from query from layout ∷ []) ++ told_of_all items query (suc from) layouts) is
    ∙ ap (λ l. cond (is_same_layout first layout) [] (layout_from query from layout ∷ []) ++ l)
    (told_behind items query (suc from) before layouts (omega (arith, same))
    (λ place lt.
    let next : from + suc place ≡ suc from + place = omega arith in
    subst (λ n. last_told n items ≡ Some (layout_at before place)) next (last (suc place) (omega (arith, lt)))))

last_long : (shards : ℕ) (first : ShardLayouts) (pinned : List ShardLayouts) → length first ≡ shards
    → AllByRecursion (λ layouts. length layouts ≡ shards) pinned → length (last_pinned first pinned) ≡ shards
last_long shards first [] same each = same
last_long shards first (next ∷ pinned) same each = last_long shards next pinned each.0 each.1

last_of : (shard : ℕ) (items : List ToldLayout) (last : ShardLayouts) → IsLastOr shard shard items [] last
    → last_told shard items ≡ Some (layout_at last shard)
last_of shard items last (inl is) = is
last_of shard items last (inr is) = absurd (omega (arith, is.1))

-- what is told of one query more, by what the query before it pinned
anew_behind : (query : ℕ) (pinned : List ShardLayouts) (layouts : ShardLayouts)
    → AllByRecursion (λ before. length before ≡ length layouts) pinned
    → told_of_all (told_from 0 [] pinned) query 0 layouts ≡ pinned_anew query 0 (last_pinned [] pinned) layouts
anew_behind query [] layouts each = none_told query 0 layouts
anew_behind query (first ∷ pinned) layouts each =
    let items = told_from 0 [] (first ∷ pinned) in
    let long : length (last_pinned first pinned) ≡ length layouts = last_long (length layouts) first pinned each.0 each.1 in
    told_behind items query 0 (last_pinned first pinned) layouts long
    (λ place lt.
    let here : 0 + place ≡ place = omega arith in
    subst (λ n. last_told n items ≡ Some (layout_at (last_pinned first pinned) place)) (sym here)
    (last_of place items (last_pinned first pinned)
    (told_last (length layouts) place 0 [] (first ∷ pinned) each (omega (arith, lt, long)) lt)))

each_more : (shards : ℕ) (pinned : List ShardLayouts) (layouts : ShardLayouts)
    → AllByRecursion (λ before. length before ≡ shards) pinned → length layouts ≡ shards
    → AllByRecursion (λ before. length before ≡ shards) (pinned ++ layouts ∷ [])
each_more shards [] layouts each same = (same, tt)
each_more shards (first ∷ pinned) layouts each same = (each.0, each_more shards pinned layouts each.1 same)

-- a query more was opened
pub pins_more : (old new : PinnedSoFar) (layouts : ShardLayouts)
    → new.opened ≡ min (old.opened + 1) 18446744073709551615
    → new.told ≡ old.told ++ told_of_all old.told old.opened 0 layouts → PinsMore old new layouts
pins_more old new layouts opened told = λ pinned tells.
    let shards = length layouts in
    let first : 0 + length pinned ≡ length pinned = omega arith in
    record {
      each = each_more shards pinned layouts tells.each refl;
      opened = omega (arith, opened, tells.opened, length-append pinned (layouts ∷ []));
      told = told ∙ ap (λ l. l ++ told_of_all l old.opened 0 layouts) tells.told
          ∙ ap (λ l. told_from 0 [] pinned ++ l) (anew_behind old.opened pinned layouts tells.each)
          ∙ ap (λ n. told_from 0 [] pinned ++ pinned_anew n 0 (last_pinned [] pinned) layouts) tells.opened
          ∙ ap (λ n. told_from 0 [] pinned ++ pinned_anew (min n 18446744073709551615) 0 (last_pinned [] pinned) layouts) (sym first)
          ∙ sym (told_more 0 [] pinned layouts);
    }
