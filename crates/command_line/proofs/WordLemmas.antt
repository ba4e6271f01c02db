-- The first word, and the parts of a word.
use Rattle.std.proofs.Common.{◌≡◌, ℕ, ◌+◌, ◌-◌, ◌==◌, List, [], ◌∷◌, length, take, drop, Some, None, ap}
use Rattle.std.specs.List.{position}
use Rattle.std.specs.Option.{option_map}
use Rattle.std.proofs.lemmas.List.{take_rest}
use Rattle.command_line.specs.WrittenOptions.{parted}
use Rattle.command_line.specs.ReadWords.{next_in, after_next}

-- the parts of a word around its first `=`
pub parted_at : (word : List ℕ) (equals : ℕ) → Some equals ≡ position (λ byte. byte == 61) word
    → Some (take equals word, take (length word - (equals + 1)) (drop (equals + 1) word)) ≡ parted word
parted_at word equals at =
    let cut : ℕ → List ℕ × List ℕ = λ (equals : ℕ). (take equals word, drop (equals + 1) word) in
    rw (take_rest word (equals + 1)) (ap (option_map cut) at)

-- the words from the first one on
pub from_first : (texts : List (List ℕ)) (word : List ℕ) → Some word ≡ next_in texts → texts ≡ word ∷ after_next texts
from_first [] word first = cc
from_first (next ∷ texts) word first = cc

-- where there is no first word there is none
pub none_left : (texts : List (List ℕ)) → None ≡ next_in texts → texts ≡ []
none_left [] first = cc
none_left (next ∷ texts) first = cc
