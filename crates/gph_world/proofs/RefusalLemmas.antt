-- Why an event is refused, by each of the causes.
use Rattle.std.proofs.Common.{◌≡◌, ℕ, ◌<◌, ◌≤◌, Bool, true, false, [], ◌∷◌, Option, Some, None, ap, ◌∙◌}
use Rattle.std.specs.Prelude.{nat_le, is_none}
use Rattle.std.proofs.lemmas.Bool.{lt-leb, le-leb}
use Rattle.world_model.specs.declared.refused.Refused.{Refused}
use Rattle.world_model.specs.declared.refused.Refused.TheVariants.{NoQuery, NoShard}
use Rattle.world_model.specs.Events.{Event, Setting}
use Rattle.world_model.specs.Refusals.{building, cause, cause_of, closed, first_cause, lacks_query, lacks_shard, many, moved, no_build, not_pinned, refusal, unfronted, unready}
use Rattle.world_model.specs.WorldState.{WorldQuery, WorldState}

-- the refusal by what each cause is
pub refusal_by : (z : Setting) (s : WorldState) (event : Event) (a b c d e f g h i j : Option Refused)
    → lacks_shard z event ≡ a → lacks_query s event ≡ b → closed s event ≡ c → many s event ≡ d → unfronted s event ≡ e
    → not_pinned s event ≡ f → building s event ≡ g → no_build s event ≡ h → unready s event ≡ i → moved s event ≡ j
    → refusal z s event ≡ first_cause (a ∷ b ∷ c ∷ d ∷ e ∷ f ∷ g ∷ h ∷ i ∷ j ∷ [])
refusal_by z s event a b c d e f g h i j pa pb pc pd pe pf pg ph pi pj =
    ap (λ (o : Option Refused). first_cause (o ∷ lacks_query s event ∷ closed s event ∷ many s event ∷ unfronted s event
    ∷ not_pinned s event ∷ building s event ∷ no_build s event ∷ unready s event ∷ moved s event ∷ [])) pa
    ∙ ap (λ (o : Option Refused). first_cause (a ∷ o ∷ closed s event ∷ many s event ∷ unfronted s event
    ∷ not_pinned s event ∷ building s event ∷ no_build s event ∷ unready s event ∷ moved s event ∷ [])) pb
    ∙ ap (λ (o : Option Refused). first_cause (a ∷ b ∷ o ∷ many s event ∷ unfronted s event
    ∷ not_pinned s event ∷ building s event ∷ no_build s event ∷ unready s event ∷ moved s event ∷ [])) pc
    ∙ ap (λ (o : Option Refused). first_cause (a ∷ b ∷ c ∷ o ∷ unfronted s event
    ∷ not_pinned s event ∷ building s event ∷ no_build s event ∷ unready s event ∷ moved s event ∷ [])) pd
    ∙ ap (λ (o : Option Refused). first_cause (a ∷ b ∷ c ∷ d ∷ o
    ∷ not_pinned s event ∷ building s event ∷ no_build s event ∷ unready s event ∷ moved s event ∷ [])) pe
    ∙ ap (λ (o : Option Refused). first_cause (a ∷ b ∷ c ∷ d ∷ e
    ∷ o ∷ building s event ∷ no_build s event ∷ unready s event ∷ moved s event ∷ [])) pf
    ∙ ap (λ (o : Option Refused). first_cause (a ∷ b ∷ c ∷ d ∷ e ∷ f ∷ o ∷ no_build s event ∷ unready s event ∷ moved s event ∷ [])) pg
    ∙ ap (λ (o : Option Refused). first_cause (a ∷ b ∷ c ∷ d ∷ e ∷ f ∷ g ∷ o ∷ unready s event ∷ moved s event ∷ [])) ph
    ∙ ap (λ (o : Option Refused). first_cause (a ∷ b ∷ c ∷ d ∷ e ∷ f ∷ g ∷ h ∷ o ∷ moved s event ∷ [])) pi
    ∙ ap (λ (o : Option Refused). first_cause (a ∷ b ∷ c ∷ d ∷ e ∷ f ∷ g ∷ h ∷ i ∷ o ∷ [])) pj

-- ---- shards
pub no_shard : (shards shard : ℕ) → shards ≤ shard → cause (nat_le shards shard) NoShard ≡ Some NoShard
no_shard shards shard beyond = ap (λ (b : Bool). cause b NoShard) (le-leb shards shard beyond)

pub is_shard : (shards shard : ℕ) → shard < shards → cause (nat_le shards shard) NoShard ≡ None
is_shard shards shard below = ap (λ (b : Bool). cause b NoShard) (lt-leb shards shard below)

-- ---- things that are there, and that aren't
pub no_query : (found : Option WorldQuery) → found ≡ None → cause (is_none found) NoQuery ≡ Some NoQuery
no_query found none = ap (λ (o : Option WorldQuery). cause (is_none o) NoQuery) none

pub is_query : (found : Option WorldQuery) (query : WorldQuery) → found ≡ Some query → cause (is_none found) NoQuery ≡ None
is_query found query there = ap (λ (o : Option WorldQuery). cause (is_none o) NoQuery) there

-- the cause that a thing gives
pub cause_at : {A : Type 0} (found : Option A) (thing : A) (test : A → Option Refused) → found ≡ Some thing → cause_of found test ≡ test thing
cause_at {A} found thing test there = ap (λ (o : Option A). cause_of o test) there

-- a cause whose test holds, or doesn't
pub cause_if : (test : Bool) (why : Refused) → test ≡ true → cause test why ≡ Some why
cause_if test why holds = ap (λ (b : Bool). cause b why) holds

pub cause_not : (test : Bool) (why : Refused) → test ≡ false → cause test why ≡ None
cause_not test why fails = ap (λ (b : Bool). cause b why) fails
