-- A source whose hits are a fixed list: each hit costs a read and a move.
use Rattle.std.specs.Prelude.{ℕ, ◌+◌, ◌-◌, ◌*◌, ◌≤◌, ◌==◌, false, List, [], length, None, All}
use Rattle.std.specs.List.Sorted.{IsSorted}
use Rattle.hamming_model.specs.declared.hit.Hit.{Hit}
use Rattle.hamming_model.specs.declared.limits.TheConstants.{BITS_MOST}
use Rattle.hamming_model.specs.Scan.{hit_cmp}
use Rattle.hit_source.specs.Sources.{Asked, Standing}
use Rattle.hit_source.specs.Windows.{Window, IsWindow, first_distance}
use Rattle.hit_source.specs.Work.{window_standing}

-- what a list of hits in order, with a room for so many, is asked
abbrev pub asked_of_list : List Hit → ℕ → Asked
asked_of_list hits room = record {
  hits = hits;
  rows = length hits;
  near = false;
  room = room;
  farthest = BITS_MOST;
  plan = λ given. ([], length hits);
  bound = λ given. length hits;
}

-- where it stands when nothing was read
abbrev pub start_of_list : List Hit → Standing
start_of_list hits = record {
  given = 0;
  waiting = [];
  floor = first_distance hits;
  reads = 0;
  ended = length hits == 0;
  begun = None;
  units = 2 * length hits;
}

-- where it stands after so many reads, with this window over its hits
abbrev pub standing_of_list : Window → ℕ → Standing
standing_of_list w reads =
    window_standing w reads (w.moved == length w.found)
    ((length w.found - reads) + (length w.found - w.moved))

-- the hits are in order, and each was read before it was moved, at most one before the next was
pub record IsListed (w : Window) (reads : ℕ) : Type 0 where
  pub ascends : IsSorted hit_cmp w.found
  pub near : All (λ hit. hit.dist ≤ BITS_MOST) w.found
  pub some_room : 1 ≤ w.room
  pub window : IsWindow w
  pub read_first : w.moved ≤ reads
  pub one_ahead : reads ≤ w.moved + 1
  pub bounded : reads ≤ length w.found
