-- The sources may be gathered, and what begins.
use Rattle.std.proofs.Common.{◌≡◌, ◌+◌, ℕ, length, ap, ◌∙◌, arith}
use Rattle.std.specs.List.{sum_by}
use Rattle.shard_version.specs.Tables.{Tabled}
use Rattle.world_model.specs.Asking.{most_given}
use Rattle.world_parts.specs.Asks.{ask_seen}
use Rattle.world_parts.specs.Pinned.{pinned_with, rows_pinned}
use Rattle.world_parts.proofs.SourceLemmas.{all_fresh, all_one_length, opened_whole, rows_more}
use Rattle.world_parts.proofs.sources.begin.Goals as goal

pub gather_fresh-requires-clause-one_length : goal.gather_fresh-requires-clause-one_length
gather_fresh-requires-clause-one_length g c κs =
    all_one_length c.args.room c.args.ask.now (pinned_with c.args.pins.now c.args.place c.args.version.now) c.requires.may
    c.in_ok-sources.sources.items
    (opened_whole c.args.room c.args.ask.now c.args.pins.now c.args.place c.args.version.now c.in_ok-sources.sources.items c.in_ok-sources.ensures)

pub gather_fresh-requires-clause-fresh : goal.gather_fresh-requires-clause-fresh
gather_fresh-requires-clause-fresh g c κs =
    all_fresh c.args.room c.args.ask.now (pinned_with c.args.pins.now c.args.place c.args.version.now) c.requires.may
    c.in_ok-sources.sources.items
    (opened_whole c.args.room c.args.ask.now c.args.pins.now c.args.place c.args.version.now c.in_ok-sources.sources.items c.in_ok-sources.ensures)

pub returns : goal.returns
returns g c =
    let own = ap (λ (tabled : Tabled). length tabled.contents.rows) c.deref.ensures in
    let more = rows_more c.args.pins.now c.args.place c.args.version.now c.requires.free in
    let rows : c.row_count.result + c.rows.result ≡ sum_by rows_pinned (pinned_with c.args.pins.now c.args.place c.args.version.now) =
    omega (arith, own, more, c.row_count.ensures.rows, c.rows.ensures.number) in
    record {
      sources = c.in_ok-sources.sources.items;
      opened = opened_whole c.args.room c.args.ask.now c.args.pins.now c.args.place c.args.version.now c.in_ok-sources.sources.items
          c.in_ok-sources.ensures;
      gather_is = c.in_ok-gather.ensures.gather;
      limit_is = λ bits. c.limit_of-limit.ensures bits ∙ ap (λ (number : ℕ). most_given number (ask_seen bits c.args.ask.now)) rows;
      holds = c.in_ok-gather.ensures.holds;
      lawful = c.in_ok-gather.ensures.lawful;
    }
