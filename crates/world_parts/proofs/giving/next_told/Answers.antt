-- The next hit is given, or it is told why there is none.
use Rattle.std.proofs.Common.{inl, inr, refl, sym, ap, ◌∙◌, arith}
use Rattle.std.specs.Prelude.{is_some}
use Rattle.std.specs.List.{list_any}
use Rattle.std.proofs.lemmas.Option.{none-some}
use Rattle.scatter_gather.specs.Gathering.{Gathered}
use Rattle.world_model.specs.declared.told.Told.TheVariants as told
use Rattle.world_parts.proofs.FloorLemmas.{floors_left, idle_without_floors, no_floors}
use Rattle.world_parts.proofs.giving.next_told.Goals as goal

pub returns-in-Some-clause-tells : goal.returns-in-Some-clause-tells
returns-in-Some-clause-tells g c = inl (record {
  hit = c.in-Some.hit;
  said_is = refl;
  may_go = (c.in-Some.ensures.may_go c.in-Some.hit).0 refl;
  next = c.in-Some.ensures.gives;
  shard = c.in-Some.ensures.after.0;
  gives = c.in-Some.ensures.after.1;
  holds = c.in-Some.ensures.holds;
})

pub returns-then-not-has_floor-clause-tells : goal.returns-then-not-has_floor-clause-tells
returns-then-not-has_floor-clause-tells g c =
    let same = c.in_default.ensures.after in
    let none = no_floors g.H.HitSource.standing c.args.gather.now.sources
    (ap (λ (gather : Gathered g.row.H.Denot). list_any (λ source. is_some (g.H.HitSource.standing source).floor) gather.sources) (sym same)
    ∙ sym c.has_floor.ensures ∙ c.if-not-has_floor.true) in
    inr (inl (record {
      said_is = ap told.Ended (c.given-count.ensures ∙ ap (λ (gather : Gathered g.row.H.Denot). gather.given) same);
      holds_back = record { none = λ hit may. none-some hit ((c.in_default.ensures.may_go hit).1 may); same = same };
      over = inr none;
      whole = c.in_default.ensures.none_left refl (idle_without_floors g.H.HitSource.asked g.H.HitSource.standing c.args.gather.now none);
    }))

pub returns-clause-tells : goal.returns-clause-tells
returns-clause-tells g c =
    let same = c.in_default.ensures.after in
    inr (inr (record {
      said_is = refl;
      holds_back = record { none = λ hit may. none-some hit ((c.in_default.ensures.may_go hit).1 may); same = same };
      goes_on = omega (
        arith,
        c.requires.holds.within,
        c.requires.limit,
        c.given-count.ensures,
        ap (λ (gather : Gathered g.row.H.Denot). gather.given) same,
        c.if-count-limit.false,
      );
      floor_left = floors_left g.H.HitSource.standing c.args.gather.now.sources
          (ap (λ (gather : Gathered g.row.H.Denot). list_any (λ source. is_some (g.H.HitSource.standing source).floor) gather.sources) (sym same)
          ∙ sym c.has_floor.ensures ∙ c.if-not-has_floor.false);
    }))
