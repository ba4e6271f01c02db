-- Chunks with the same entries have them in the same order.
use Rattle.std.proofs.Common.{◌∙◌, ap, map}
use Rattle.commit_journal.specs.Chunks.{chunk_items}
use Rattle.commit_journal.proofs.ChunkLemmas.{same_full, same_joined}
use Rattle.commit_journal.proofs.chunks.Chunks.copy.Goals as goal

pub invariant_of-result : goal.invariant_of-result
invariant_of-result g c =
    let same = c.in_ok-all.ensures ∙ ap (map chunk_items) c.deref.ensures.value in
    let entries = same_joined chunk_items c.self.inside.all.items c.in_ok-all.all.items same in
    record {
      few_words = c.self.invariant.few_words;
      full = same_full chunk_items c.self.inside.all.items c.in_ok-all.all.items same c.self.invariant.full;
      few = rw entries c.self.invariant.few;
    }

pub returns : goal.returns
returns g c =
    let same = c.in_ok-all.ensures ∙ ap (map chunk_items) c.deref.ensures.value in
    rw (same_joined chunk_items c.self.inside.all.items c.in_ok-all.all.items same) c.self.view_is
