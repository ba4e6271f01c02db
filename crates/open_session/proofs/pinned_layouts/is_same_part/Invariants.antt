use Rattle.std.proofs.Common.{◌≡◌, ◌≤◌, length, drop}
use Rattle.std.specs.Str.{bytes_eq}
use Rattle.part_layout.specs.Laid.{part_at}
use Rattle.open_session.proofs.pinned_layouts.is_same_part.Given as goal

-- the parts are the same where their positions from here on are
abbrev pub invariant-loop-place : goal.invariant-loop-place
invariant-loop-place l = (length (part_at l.one l.part) ≡ l.width) × (length (part_at l.other l.part) ≡ l.width) × (l.place ≤ l.width)
    × (bytes_eq (part_at l.one l.part) (part_at l.other l.part)
    ≡ bytes_eq (drop l.place (part_at l.one l.part)) (drop l.place (part_at l.other l.part)))
