use Rattle.std.proofs.Common.{arith}
use Rattle.layout_search.proofs.SearchLemmas.{tables_parts}
use Rattle.layout_search.proofs.search.Search.turn_to.Goals as goal

pub turn_all-requires : goal.turn_all-requires
turn_all-requires g c =
    let layout = c.args.self.now.layout in
    rw c.as_mut_slice.ensures.value
    record {
      each = λ k table below.
          let inside = c.requires.inside in
          let size = (tables_parts layout.bits c.args.self.now.rows.items c.args.self.now.samples.items layout.parts c.args.self.now.tables.items
          c.requires.ready.counted).sizes k table below in
          omega arith;
    }
