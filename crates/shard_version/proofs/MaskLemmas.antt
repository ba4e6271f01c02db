-- Masks of parts, made position by position.
use Rattle.std.proofs.Common.{◌≡◌, ℕ, ◌+◌, ◌<◌, ◌≤◌, List, length, drop, set, get_or, sym, ap, ◌∙◌}
use Rattle.std.proofs.lemmas.List.{drop_more, drop_all}
use Rattle.gph_codes.specs.Masks.{with_ones}

-- a mask with one position more has ones at what is left still to add
pub mask_step : (mask new part all : List ℕ) (place position : ℕ) → place < length part
    → position ≡ get_or part place 0 → new ≡ set mask position 1
    → with_ones mask (drop place part) ≡ all → with_ones new (drop (place + 1) part) ≡ all
mask_step mask new part all place position less at is before =
    ap (λ one. with_ones one (drop (place + 1) part)) (is ∙ ap (λ p. set mask p 1) at)
    ∙ sym (ap (with_ones mask) (drop_more part place 0 less)) ∙ before

-- a mask to which nothing is left to add
pub mask_end : (mask part all : List ℕ) (place : ℕ) → length part ≤ place
    → with_ones mask (drop place part) ≡ all → mask ≡ all
mask_end mask part all place past before =
    sym (ap (with_ones mask) (drop_all place part past)) ∙ before
