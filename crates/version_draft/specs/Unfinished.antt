-- What a contract sees of a version that is being made.
use Rattle.std.specs.Prelude.{ℕ, ◌-◌, length, refl}
use Rattle.std.specs.Coded.{Coded, code_by, coded×, coded_ℕ}
use Rattle.part_layout.specs.Laid.{Laid}
use Rattle.shard_version.specs.Contents.{Contents, contents_code}
use Rattle.shard_version.specs.Relaid.{in_layout}

-- the contents of the version that it becomes, and how many of the rows are left to place
pub record Unfinished : Type 0 where
  pub contents : Contents
  pub left : ℕ

-- an unfinished version as a pair
abbrev pub unfinished_code : Coded Unfinished
unfinished_code =
    code_by (Contents × ℕ) (coded× contents_code coded_ℕ)
    (λ draft. (draft.contents, draft.left)) (λ pair. record { contents = pair.0; left = pair.1 })
    (λ _. refl)

-- a version in another layout, with no row placed
abbrev pub begun : Contents → Laid → Unfinished
begun version layout =
    record { contents = in_layout version layout; left = length version.rows }

-- with so many rows more placed, or all that are left
abbrev pub with_placed : Unfinished → ℕ → Unfinished
with_placed draft number = record draft { left = draft.left - number }
