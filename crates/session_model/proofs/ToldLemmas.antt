-- Lemmas on the layouts that are told of queries: the last of a shard is the one that the last query pinned there.
use Rattle.std.proofs.Common.{◌≡◌, ℕ, zero, suc, ◌+◌, ◌-◌, ◌<◌, ◌==◌, ◌⊎◌, min, nat_le, Bool, true, false, cond}
use Rattle.std.proofs.Common.{List, [], ◌∷◌, ◌++◌, length, filter, take, slice_index_or, Option, Some, None}
use Rattle.std.proofs.Common.{refl, sym, ap, ◌∙◌, subst, arith, inl, inr, append_assoc, append-nil}
use Rattle.std.specs.List.{AllByRecursion}
use Rattle.std.specs.Option.{option_or}
use Rattle.std.specs.Cmp.Lexicographic.{pointwise_decides, bytes_decides}
use Rattle.std.proofs.lemmas.Bool.{eq-eqb, ne_eqb, le-leb, leb-true}
use Rattle.std.proofs.lemmas.List.Elements.{filter-append}
use Rattle.session_model.specs.Ledger.{layout_at}
use Rattle.session_model.specs.State.{Query}
use Rattle.session_model.specs.Told.{ArePinnedAsTold, ShardLayouts, ToldLayout, is_same_layout, last_told, layout_from}
use Rattle.session_model.specs.Told.{pinned_anew, pinned_by, told_from}

-- ---- layouts that are the same

pub same_is : (one other : List (List ℕ)) → is_same_layout one other ≡ true → one ≡ other
same_is one other same = (pointwise_decides bytes_decides one other).0 same

pub is_same : (one other : List (List ℕ)) → one ≡ other → is_same_layout one other ≡ true
is_same one other same = (pointwise_decides bytes_decides one other).1 same

-- ---- the last that is told of a shard

-- one behind it
still_told : (shard : ℕ) (item : ToldLayout) (items : List ToldLayout) (layout : List (List ℕ))
    → last_told shard items ≡ Some layout → last_told shard (item ∷ items) ≡ Some layout
still_told shard item items layout is =
    ap (λ o. option_or o (cond (item.shard == shard) (Some item.layout) None)) is

-- one of another shard before it
still_none : (shard : ℕ) (item : ToldLayout) (items : List ToldLayout)
    → (item.shard == shard) ≡ false → last_told shard items ≡ None → last_told shard (item ∷ items) ≡ None
still_none shard item items other is =
    ap (λ o. option_or o (cond (item.shard == shard) (Some item.layout) None)) is
    ∙ ap (λ b. cond b (Some item.layout) None) other

-- the only one
told_first : (shard : ℕ) (item : ToldLayout) (items : List ToldLayout)
    → (item.shard == shard) ≡ true → last_told shard items ≡ None → last_told shard (item ∷ items) ≡ Some item.layout
told_first shard item items own is =
    ap (λ o. option_or o (cond (item.shard == shard) (Some item.layout) None)) is
    ∙ ap (λ b. cond b (Some item.layout) None) own

or_then : {A : Type 0} (a b c : Option A) → option_or (option_or a b) c ≡ option_or a (option_or b c)
or_then None b c = refl
or_then (Some x) b c = refl

pub last_append : (shard : ℕ) (front back : List ToldLayout)
    → last_told shard (front ++ back) ≡ option_or (last_told shard back) (last_told shard front)
last_append shard [] back = none_or (last_told shard back)
  where
    none_or : {A : Type 0} (a : Option A) → a ≡ option_or a None
    none_or None = refl
    none_or (Some x) = refl
last_append shard (item ∷ front) back =
    ap (λ o. option_or o (cond (item.shard == shard) (Some item.layout) None)) (last_append shard front back)
    ∙ or_then (last_told shard back) (last_told shard front) (cond (item.shard == shard) (Some item.layout) None)

-- ---- what one query pins

abbrev anew_by : Bool → ToldLayout → List ToldLayout → List ToldLayout
anew_by same item rest = cond same [] (item ∷ []) ++ rest

-- nothing is told of the shards before the first
anew_none_by : (shard : ℕ) (item : ToldLayout) (rest : List ToldLayout) (same : Bool)
    → (item.shard == shard) ≡ false → last_told shard rest ≡ None → last_told shard (anew_by same item rest) ≡ None
anew_none_by shard item rest true other is = is
anew_none_by shard item rest false other is = still_none shard item rest other is

anew_none : (query from shard : ℕ) (before layouts : ShardLayouts) → shard < from
    → last_told shard (pinned_anew query from before layouts) ≡ None
anew_none query from shard before [] lt = refl
anew_none query from shard [] (layout ∷ layouts) lt =
    still_none shard (layout_from query from layout) (pinned_anew query (suc from) [] layouts)
    (ne_eqb from shard (λ e. omega (arith, lt, e))) (anew_none query (suc from) shard [] layouts (omega (arith, lt)))
anew_none query from shard (last ∷ before) (layout ∷ layouts) lt =
    anew_none_by shard (layout_from query from layout) (pinned_anew query (suc from) before layouts)
    (is_same_layout last layout) (ne_eqb from shard (λ e. omega (arith, lt, e)))
    (anew_none query (suc from) shard before layouts (omega (arith, lt)))

-- the layout now is the last that is told of a shard, or none is and it was the same before
abbrev pub IsLastOr : ℕ → ℕ → List ToldLayout → ShardLayouts → ShardLayouts → Type 0
IsLastOr shard place items before layouts =
    (last_told shard items ≡ Some (layout_at layouts place))
    ⊎ ((last_told shard items ≡ None) × (place < length before) × (layout_at before place ≡ layout_at layouts place))

anew_first : (query from shard : ℕ) (last layout : List (List ℕ)) (before layouts : ShardLayouts) (same : Bool)
    → is_same_layout last layout ≡ same → shard ≡ from + 0
    → IsLastOr shard 0 (anew_by same (layout_from query from layout) (pinned_anew query (suc from) before layouts))
    (last ∷ before) (layout ∷ layouts)
anew_first query from shard last layout before layouts true is at =
    inr (anew_none query (suc from) shard before layouts (omega (arith, at)), omega arith, same_is last layout is)
anew_first query from shard last layout before layouts false is at =
    inl (told_first shard (layout_from query from layout) (pinned_anew query (suc from) before layouts)
    (eq-eqb from shard (omega (arith, at))) (anew_none query (suc from) shard before layouts (omega (arith, at))))

anew_later : (query from shard place : ℕ) (last layout : List (List ℕ)) (before layouts : ShardLayouts) (same : Bool)
    → shard ≡ from + suc place
    → IsLastOr shard place (pinned_anew query (suc from) before layouts) before layouts
    → IsLastOr shard (suc place) (anew_by same (layout_from query from layout) (pinned_anew query (suc from) before layouts))
    (last ∷ before) (layout ∷ layouts)
anew_later query from shard place last layout before layouts true at (inl is) = inl is
anew_later query from shard place last layout before layouts true at (inr is) =
    inr (is.0, omega (arith, is.1), is.2)
anew_later query from shard place last layout before layouts false at (inl is) =
    inl (still_told shard (layout_from query from layout) (pinned_anew query (suc from) before layouts) _ is)
anew_later query from shard place last layout before layouts false at (inr is) =
    inr (
      still_none shard (layout_from query from layout) (pinned_anew query (suc from) before layouts)
          (ne_eqb from shard (λ e. omega (arith, at, e))) is.0,
      omega (arith, is.1),
      is.2,
    )

anew_alone : (query from shard place : ℕ) (layout : List (List ℕ)) (layouts : ShardLayouts)
    → shard ≡ from + suc place
    → IsLastOr shard place (pinned_anew query (suc from) [] layouts) [] layouts
    → IsLastOr shard (suc place) (layout_from query from layout ∷ pinned_anew query (suc from) [] layouts) []
    (layout ∷ layouts)
anew_alone query from shard place layout layouts at (inl is) =
    inl (still_told shard (layout_from query from layout) (pinned_anew query (suc from) [] layouts) _ is)
anew_alone query from shard place layout layouts at (inr is) = absurd (omega (arith, is.1))

anew_last : (query from shard place : ℕ) (before layouts : ShardLayouts) → shard ≡ from + place → place < length layouts
    → IsLastOr shard place (pinned_anew query from before layouts) before layouts
anew_last query from shard place before [] at lt = absurd (omega (arith, lt))
anew_last query from shard zero [] (layout ∷ layouts) at lt =
    inl (told_first shard (layout_from query from layout) (pinned_anew query (suc from) [] layouts)
    (eq-eqb from shard (omega (arith, at))) (anew_none query (suc from) shard [] layouts (omega (arith, at))))
anew_last query from shard (suc place) [] (layout ∷ layouts) at lt =
    anew_alone query from shard place layout layouts at
    (anew_last query (suc from) shard place [] layouts (omega (arith, at)) (omega (arith, lt)))
anew_last query from shard zero (last ∷ before) (layout ∷ layouts) at lt =
    anew_first query from shard last layout before layouts (is_same_layout last layout) refl at
anew_last query from shard (suc place) (last ∷ before) (layout ∷ layouts) at lt =
    anew_later query from shard place last layout before layouts (is_same_layout last layout) at
    (anew_last query (suc from) shard place before layouts (omega (arith, at)) (omega (arith, lt)))

-- ---- what queries pin

-- what the last of queries pinned, behind one that pinned this
abbrev pub last_pinned : ShardLayouts → List ShardLayouts → ShardLayouts
last_pinned before [] = before
last_pinned before (layouts ∷ later) = last_pinned layouts later

-- one query more
pub told_more : (number : ℕ) (before : ShardLayouts) (pinned : List ShardLayouts) (layouts : ShardLayouts)
    → told_from number before (pinned ++ layouts ∷ [])
    ≡ told_from number before pinned
    ++ pinned_anew (min (number + length pinned) 18446744073709551615) 0 (last_pinned before pinned) layouts
told_more number before [] layouts =
    append-nil (pinned_anew (min number 18446744073709551615) 0 before layouts)
    ∙ ap (λ n. pinned_anew (min n 18446744073709551615) 0 before layouts) (omega arith)
told_more number before (first ∷ pinned) layouts =
    let anew = pinned_anew (min number 18446744073709551615) 0 before first in
    let rest = told_from (suc number) first pinned in
    let last = last_pinned first pinned in
    ap (λ l. anew ++ l) (told_more (suc number) first pinned layouts)
    ∙ sym (append_assoc anew rest (pinned_anew (min (suc number + length pinned) 18446744073709551615) 0 last layouts))
    ∙ ap (λ n. (anew ++ rest) ++ pinned_anew (min n 18446744073709551615) 0 last layouts) (omega arith)

last_by : (shard : ℕ) (anew rest : List ToldLayout) (before first last : ShardLayouts)
    → IsLastOr shard shard anew before first → IsLastOr shard shard rest first last
    → IsLastOr shard shard (anew ++ rest) before last
last_by shard anew rest before first last one (inl is) =
    inl (last_append shard anew rest ∙ ap (λ o. option_or o (last_told shard anew)) is)
last_by shard anew rest before first last (inl one) (inr is) =
    inl (last_append shard anew rest ∙ ap (λ o. option_or o (last_told shard anew)) is.0 ∙ one ∙ ap Some is.2)
last_by shard anew rest before first last (inr one) (inr is) =
    inr (
      last_append shard anew rest ∙ ap (λ o. option_or o (last_told shard anew)) is.0 ∙ one.0,
      one.1,
      one.2 ∙ is.2,
    )

-- the last that is told of a shard is what the last query pinned there
pub told_last : (shards shard number : ℕ) (before : ShardLayouts) (pinned : List ShardLayouts)
    → AllByRecursion (λ layouts. length layouts ≡ shards) pinned → shard < shards
    → shard < length (last_pinned before pinned)
    → IsLastOr shard shard (told_from number before pinned) before (last_pinned before pinned)
told_last shards shard number before [] each lt here = inr (refl, here, refl)
told_last shards shard number before (first ∷ pinned) each lt here =
    last_by shard (pinned_anew (min number 18446744073709551615) 0 before first) (told_from (suc number) first pinned)
    before first (last_pinned first pinned)
    (anew_last (min number 18446744073709551615) 0 shard shard before first (omega arith) (omega (arith, lt, each.0)))
    (told_last shards shard (suc number) first pinned each.1 lt here)

-- ---- up to a query

abbrev up_to : ℕ → ToldLayout → Bool
up_to most item = nat_le item.query most

anew_all_by : (most : ℕ) (item : ToldLayout) (rest : List ToldLayout) (same : Bool) → nat_le item.query most ≡ true
    → filter (up_to most) rest ≡ rest → filter (up_to most) (anew_by same item rest) ≡ anew_by same item rest
anew_all_by most item rest true le is = is
anew_all_by most item rest false le is =
    ap (λ b. cond b (item ∷ filter (up_to most) rest) (filter (up_to most) rest)) le ∙ ap (λ l. item ∷ l) is

anew_all : (most query from : ℕ) (before layouts : ShardLayouts) → nat_le query most ≡ true
    → filter (up_to most) (pinned_anew query from before layouts) ≡ pinned_anew query from before layouts
anew_all most query from before [] le = refl
anew_all most query from [] (layout ∷ layouts) le =
    anew_all_by most (layout_from query from layout) (pinned_anew query (suc from) [] layouts) false le
    (anew_all most query (suc from) [] layouts le)
anew_all most query from (last ∷ before) (layout ∷ layouts) le =
    anew_all_by most (layout_from query from layout) (pinned_anew query (suc from) before layouts)
    (is_same_layout last layout) le (anew_all most query (suc from) before layouts le)

anew_gone_by : (most : ℕ) (item : ToldLayout) (rest : List ToldLayout) (same : Bool) → nat_le item.query most ≡ false
    → filter (up_to most) rest ≡ [] → filter (up_to most) (anew_by same item rest) ≡ []
anew_gone_by most item rest true gt is = is
anew_gone_by most item rest false gt is =
    ap (λ b. cond b (item ∷ filter (up_to most) rest) (filter (up_to most) rest)) gt ∙ is

anew_gone : (most query from : ℕ) (before layouts : ShardLayouts) → nat_le query most ≡ false
    → filter (up_to most) (pinned_anew query from before layouts) ≡ []
anew_gone most query from before [] gt = refl
anew_gone most query from [] (layout ∷ layouts) gt =
    anew_gone_by most (layout_from query from layout) (pinned_anew query (suc from) [] layouts) false gt
    (anew_gone most query (suc from) [] layouts gt)
anew_gone most query from (last ∷ before) (layout ∷ layouts) gt =
    anew_gone_by most (layout_from query from layout) (pinned_anew query (suc from) before layouts)
    (is_same_layout last layout) gt (anew_gone most query (suc from) before layouts gt)

not_below : (a b : ℕ) → b < a → nat_le a b ≡ false
not_below a b lt = not_by (nat_le a b) refl
  where
    not_by : (le : Bool) → nat_le a b ≡ le → le ≡ false
    not_by true is = absurd (omega (arith, lt, leb-true a b is))
    not_by false is = refl

from_gone : (most number : ℕ) (before : ShardLayouts) (pinned : List ShardLayouts) → most < number
    → most < 18446744073709551615 → filter (up_to most) (told_from number before pinned) ≡ []
from_gone most number before [] lt few = refl
from_gone most number before (first ∷ pinned) lt few =
    filter-append (up_to most) (pinned_anew (min number 18446744073709551615) 0 before first) (told_from (suc number) first pinned)
    ∙ ap (λ l. l ++ filter (up_to most) (told_from (suc number) first pinned))
    (anew_gone most (min number 18446744073709551615) 0 before first
    (not_below (min number 18446744073709551615) most (omega (arith, lt, few))))
    ∙ from_gone most (suc number) first pinned (omega (arith, lt)) few

-- what is told up to a query is what is told of those up to it
from_front : (more number : ℕ) (before : ShardLayouts) (pinned : List ShardLayouts)
    → number + more < 18446744073709551615
    → filter (up_to (number + more)) (told_from number before pinned) ≡ told_from number before (take (suc more) pinned)
from_front more number before [] few = refl
from_front zero number before (first ∷ pinned) few =
    let anew = pinned_anew (min number 18446744073709551615) 0 before first in
    filter-append (up_to (number + 0)) anew (told_from (suc number) first pinned)
    ∙ ap (λ l. l ++ filter (up_to (number + 0)) (told_from (suc number) first pinned))
    (anew_all (number + 0) (min number 18446744073709551615) 0 before first
    (le-leb (min number 18446744073709551615) (number + 0) (omega arith)))
    ∙ ap (λ l. anew ++ l) (from_gone (number + 0) (suc number) first pinned (omega arith) few)
from_front (suc more) number before (first ∷ pinned) few =
    let anew = pinned_anew (min number 18446744073709551615) 0 before first in
    let same : suc number + more ≡ number + suc more = omega arith in
    filter-append (up_to (number + suc more)) anew (told_from (suc number) first pinned)
    ∙ ap (λ l. l ++ filter (up_to (number + suc more)) (told_from (suc number) first pinned))
    (anew_all (number + suc more) (min number 18446744073709551615) 0 before first
    (le-leb (min number 18446744073709551615) (number + suc more) (omega arith)))
    ∙ ap (λ l. anew ++ l)
    (subst (λ n. filter (up_to n) (told_from (suc number) first pinned) ≡ told_from (suc number) first (take (suc more) pinned)) same
    (from_front more (suc number) first pinned (omega (arith, few))))

front_last : (number : ℕ) (before : ShardLayouts) (pinned : List ShardLayouts) → number < length pinned
    → last_pinned before (take (suc number) pinned) ≡ slice_index_or pinned number []
front_last number before [] lt = absurd (omega (arith, lt))
front_last zero before (first ∷ pinned) lt = refl
front_last (suc number) before (first ∷ pinned) lt = front_last number first pinned (omega (arith, lt))

each_in_front : (shards number : ℕ) (pinned : List ShardLayouts) → AllByRecursion (λ layouts. length layouts ≡ shards) pinned
    → AllByRecursion (λ layouts. length layouts ≡ shards) (take number pinned)
each_in_front shards zero pinned each = tt
each_in_front shards (suc number) [] each = tt
each_in_front shards (suc number) (first ∷ pinned) each = (each.0, each_in_front shards number pinned each.1)

each_at : (shards number : ℕ) (pinned : List ShardLayouts) → AllByRecursion (λ layouts. length layouts ≡ shards) pinned
    → number < length pinned → length (slice_index_or pinned number []) ≡ shards
each_at shards number [] each lt = absurd (omega (arith, lt))
each_at shards zero (first ∷ pinned) each lt = each.0
each_at shards (suc number) (first ∷ pinned) each lt = each_at shards number pinned each.1 (omega (arith, lt))

each_pinned : (shards : ℕ) (queries : List Query) → AllByRecursion (λ query. length query.pinned ≡ shards) queries
    → AllByRecursion (λ layouts. length layouts ≡ shards) (pinned_by queries)
each_pinned shards [] each = tt
each_pinned shards (query ∷ queries) each = (each.0, each_pinned shards queries each.1)

same_number : (queries : List Query) → length (pinned_by queries) ≡ length queries
same_number [] = refl
same_number (query ∷ queries) = ap suc (same_number queries)

pinned_as_told_by : (shard : ℕ) (items : List ToldLayout) (last : ShardLayouts) → IsLastOr shard shard items [] last
    → last_told shard items ≡ Some (layout_at last shard)
pinned_as_told_by shard items last (inl is) = is
pinned_as_told_by shard items last (inr is) = absurd (omega (arith, is.1))

front_from_first : (number : ℕ) (pinned : List ShardLayouts) → number < 18446744073709551615
    → filter (up_to number) (told_from 0 [] pinned) ≡ told_from 0 [] (take (suc number) pinned)
front_from_first number pinned few =
    let same : 0 + number ≡ number = omega arith in
    subst (λ n. filter (up_to n) (told_from 0 [] pinned) ≡ told_from 0 [] (take (suc number) pinned)) same
    (from_front number 0 [] pinned (omega (arith, few)))

-- the law
pub pinned_as_told : (shards : ℕ) (queries : List Query) → AllByRecursion (λ query. length query.pinned ≡ shards) queries
    → ArePinnedAsTold shards queries
pinned_as_told shards queries each = λ number shard inside few lt.
    let pinned = pinned_by queries in
    let all = each_pinned shards queries each in
    let here : number < length pinned = omega (arith, inside, same_number queries) in
    let last = front_last number [] pinned here in
    ap (last_told shard) (front_from_first number pinned few)
    ∙ pinned_as_told_by shard (told_from 0 [] (take (suc number) pinned)) (last_pinned [] (take (suc number) pinned))
    (told_last shards shard 0 [] (take (suc number) pinned) (each_in_front shards (suc number) pinned all) lt
    (omega (arith, lt, ap length last, each_at shards number pinned all here)))
    ∙ ap (λ l. Some (layout_at l shard)) last
