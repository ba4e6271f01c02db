use Rattle.std.proofs.Common.{◌≡◌, ◌≤◌, length, drop}
use Rattle.session_model.specs.Told.{is_same_layout}
use Rattle.open_session.proofs.pinned_layouts.is_same.Given as goal

-- the layouts are the same where the parts from here on are
abbrev pub invariant-loop-part : goal.invariant-loop-part
invariant-loop-part l = (length l.one.parts ≡ l.parts) × (length l.other.parts ≡ l.parts) × (l.part ≤ l.parts)
    × (is_same_layout l.one.parts l.other.parts ≡ is_same_layout (drop l.part l.one.parts) (drop l.part l.other.parts))
