-- The front that the journal opens is the query's.
use Rattle.std.proofs.Common.{◌≡◌, ℕ, ◌++◌, ◌∷◌, [], false, List, None, length, replicate, sym, ap, subst, ◌∙◌, arith}
use Rattle.std.specs.Prelude.{nat_le, Ok}
use Rattle.std.proofs.lemmas.Bool.{lt-leb}
use Rattle.world_model.specs.declared.told.Told.TheVariants as told
use Rattle.world_model.specs.Events.{IsQuestion, Open}
use Rattle.world_model.specs.WorldStep.{WorldStep}
use Rattle.world_parts.specs.Asks.{IsStoredAsk, ask_seen}
use Rattle.gph_world.specs.Kept.{KeepsWorld}
use Rattle.gph_world.specs.Seen.{setting_seen, state_seen}
use Rattle.gph_world.specs.Worlds.{WorldView}
use Rattle.world_parts.specs.declared.held.Held.{Held}
use Rattle.world_parts.proofs.PinLemmas.{PinVec}
use Rattle.gph_world.proofs.OpenLemmas.{open_keeps, open_step}
use Rattle.gph_world.proofs.world.World.open.Goals as goal

module _ (g : _) (c : goal.In-Ok-push g) where
  abbrev held : Held g.row.W
  held = c.new_held-held.result

  items : c.push.new.self.items ≡ c.self.inside.queries.items ++ held ∷ []
  items = c.in-Ok-push.ensures.items ∙ ap (λ (queries : List (Held g.row.W)). queries ++ held ∷ []) c.reserve.ensures.items

  few : nat_le 65536 c.len-number.result ≡ false
  few = lt-leb 65536 c.len-number.result c.if-number-ge-OPENED_MOST.false

  long : c.len-number.result ≡ length c.self.inside.queries.items
  long = omega (arith, c.len-number.ensures, c.self.inside.queries.ok.0)

  formed : IsQuestion c.self.inside.bits (ask_seen c.self.inside.bits c.args.ask)
  formed = subst (λ (w : WorldView). IsQuestion w.setting.bits (ask_seen w.setting.bits c.args.ask)) (sym c.self.view_is) c.requires.question

  stored : IsStoredAsk c.self.inside.bits c.args.ask
  stored = subst (λ (w : WorldView). IsStoredAsk w.setting.bits c.args.ask) (sym c.self.view_is) c.requires.stored

  pins : c.in-Ok-no_pins.pins.items ≡ replicate (length c.self.inside.places.items) None
  pins =
      let e : c.len.result ≡ length c.self.inside.places.items = omega (arith, c.len.ensures, c.self.inside.places.ok.0) in
      c.in-Ok-no_pins.ensures ∙ ap (λ (n : ℕ). replicate n None) e

  known_pins : held.pinned.value.items ≡ replicate (length c.self.inside.places.items) None
  known_pins = ap (λ (known : PinVec). known.items) (sym c.new_held-held.ensures.whole.pins) ∙ c.new_held-held.ensures.pins_are ∙ pins

  known_sources : held.gathered.value ≡ None
  known_sources = sym c.new_held-held.ensures.whole.gather ∙ c.new_held-held.ensures.no_sources

pub invariant_of-self-2 : goal.invariant_of-self-2
invariant_of-self-2 g c =
    let i = c.self.inside in
    subst (λ (queries : List (Held g.row.W)). KeepsWorld i.bits i.room c.open_front.new.self i.places.items queries) (sym (items g c))
    (open_keeps i.bits i.room i.journal c.open_front.new.self i.places.items i.queries.items c.self.invariant c.args.who c.in-Ok-open_front.front
    c.in-Ok-open_front.ensures.opened c.in-Ok-open_front.ensures.live c.in-Ok-open_front.ensures.known c.in-Ok-open_front.ensures.fronts
    c.args.ask (formed g c) (stored g c) (held g c) c.new_held-held.ensures.ask_is c.new_held-held.ensures.position_is c.new_held-held.ensures.front_is
    (known_pins g c) (known_sources g c) c.new_held-held.ensures.goes_on c.new_held-held.ensures.whole
    (ap (nat_le 65536) (sym (long g c)) ∙ few g c))

pub returns-clause-step : goal.returns-clause-step
returns-clause-step g c =
    let i = c.self.inside in
    subst (λ (w : WorldView). WorldStep w.setting w.state (Open c.args.who (ask_seen w.setting.bits c.args.ask))
    (Ok (told.Opened c.len-number.result c.position-position.result))
    (state_seen i.bits c.open_front.new.self i.places.items c.push.new.self.items)) c.self.view_is
    (subst (λ (queries : List (Held g.row.W)). WorldStep (setting_seen i.bits i.room i.journal i.places.items)
    (state_seen i.bits i.journal i.places.items i.queries.items)
    (Open c.args.who (ask_seen i.bits c.args.ask)) (Ok (told.Opened c.len-number.result c.position-position.result))
    (state_seen i.bits c.open_front.new.self i.places.items queries)) (sym (items g c))
    (open_step i.bits i.room i.journal c.open_front.new.self i.places.items i.queries.items c.self.invariant c.args.who c.in-Ok-open_front.front
    c.in-Ok-open_front.ensures.opened c.in-Ok-open_front.ensures.live c.in-Ok-open_front.ensures.known c.in-Ok-open_front.ensures.fronts
    c.args.ask (formed g c) (stored g c) (held g c) c.new_held-held.ensures.ask_is c.new_held-held.ensures.position_is c.new_held-held.ensures.front_is
    (known_pins g c) (known_sources g c) c.new_held-held.ensures.goes_on c.new_held-held.ensures.whole
    c.len-number.result c.position-position.result (long g c) c.position-position.ensures.position (few g c)))
