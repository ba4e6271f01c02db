-- Where a word of a line ends.
use Rattle.std.proofs.Common.{◌≡◌, ◌≢◌, ℕ, zero, suc, ◌+◌, ◌<◌, ◌≤◌, ◌==◌, ◌&&◌, not, Bool, true, false}
use Rattle.std.proofs.Common.{List, [], ◌∷◌, ◌++◌, length, take, drop, get_or, ap, sym, ◌∙◌, append_assoc, add-one, arith}
use Rattle.std.proofs.Math.ListN.{drop_of_length-le}
use Rattle.std.proofs.Math.Seq.{take-add, take-suc, drop-cons}
use Rattle.std.proofs.lemmas.Bool.Decides.{nat_tests}
use Rattle.std.proofs.lemmas.List.{append-nil, drop-drop, take-append-drop}
use Rattle.line_forms.specs.Words.{words, words_after, begun_word, has_no_space, IsBegun}

-- a byte that is no space
no_space : (byte : ℕ) → byte ≢ 32 → (byte == 32) ≡ false
no_space byte other = grind (arith, nat_tests)

-- a byte that is no space goes on with the begun word
goes_on : (begun rest : List ℕ) (byte : ℕ) → byte ≢ 32 → words_after begun (byte ∷ rest) ≡ words_after (begun ++ byte ∷ []) rest
goes_on begun rest byte other = let plain : (byte == 32) ≡ false = no_space byte other in rw plain

-- a space ends the begun word
ends : (begun rest : List ℕ) (byte : ℕ) → byte ≡ 32 → words_after begun (byte ∷ rest) ≡ begun_word begun ++ words (byte ∷ rest)
ends begun rest byte space = rw space

-- the begun word at one more byte
pub one_more : (line : List ℕ) (end : ℕ) → end < length line → get_or line end 0 ≢ 32
    → words line ≡ words_after (take end line) (drop end line) → words line ≡ words_after (take (end + 1) line) (drop (end + 1) line)
one_more line end inside other same =
    let rest : drop end line ≡ get_or line end 0 ∷ drop (suc end) line = drop-cons line end 0 inside in
    let step = goes_on (take end line) (drop (suc end) line) (get_or line end 0) other in
    let more : take (suc end) line ≡ take end line ++ get_or line end 0 ∷ [] = take-suc line end 0 inside in
    rw add-one (rw more (rw rest at same ∙ step))

-- a first byte that is no space, and the bytes after it
none_first : (byte : ℕ) (rest : Bool) → (not (byte == 32) && rest) ≡ true → (byte ≢ 32) × (rest ≡ true)
none_first byte rest none = grind (arith, nat_tests)

-- bytes with no space go on with the begun word
all_go_on : (front begun rest : List ℕ) → has_no_space front ≡ true → words_after begun (front ++ rest) ≡ words_after (begun ++ front) rest
all_go_on [] begun rest none = ap (λ l. words_after l rest) (sym (append-nil begun))
all_go_on (byte ∷ front) begun rest none =
    let first = none_first byte (has_no_space front) none in
    goes_on begun (front ++ rest) byte first.0 ∙ all_go_on front (begun ++ byte ∷ []) rest first.1
    ∙ ap (λ l. words_after l rest) (append_assoc begun (byte ∷ []) front)

-- the begun word at so many more bytes with no space
pub many_more : (line : List ℕ) (end more : ℕ) → has_no_space (take more (drop end line)) ≡ true
    → words line ≡ words_after (take end line) (drop end line) → words line ≡ words_after (take (end + more) line) (drop (end + more) line)
many_more line end more none same =
    let front = take more (drop end line) in
    let rest = drop more (drop end line) in
    same ∙ ap (λ l. words_after (take end line) l) (sym (take-append-drop more (drop end line)))
    ∙ all_go_on front (take end line) rest none
    ∙ ap (λ l. words_after l rest) (sym (take-add end more line))
    ∙ ap (λ l. words_after (take (end + more) line) l) (drop-drop more end line)

-- the word that ends at a space
pub at_space : (line : List ℕ) (end : ℕ) → end < length line → get_or line end 0 ≡ 32
    → words line ≡ words_after (take end line) (drop end line) → words line ≡ begun_word (take end line) ++ words (drop end line)
at_space line end inside space same =
    let rest : drop end line ≡ get_or line end 0 ∷ drop (suc end) line = drop-cons line end 0 inside in
    let step = ends (take end line) (drop (suc end) line) (get_or line end 0) space in
    rw rest (rw rest at same ∙ step)

-- the first word of bytes that begin with a word
pub first_word : (begun : List ℕ) (end : ℕ) → IsBegun begun → 0 < length begun → (end < length begun → get_or begun end 0 ≡ 32)
    → words begun ≡ begun_word (take end begun) ++ words (drop end begun) → words begun ≡ take end begun ∷ words (drop end begun)
first_word [] end first some stops same = absurd (omega (arith, some))
first_word (byte ∷ bytes) zero first some stops same = absurd (first (stops some))
first_word (byte ∷ bytes) (suc end) first some stops same = same

-- the word that ends with the line
pub at_end : (line : List ℕ) (end : ℕ) → length line ≤ end
    → words line ≡ words_after (take end line) (drop end line) → words line ≡ begun_word (take end line) ++ words (drop end line)
at_end line end past same =
    let none : drop end line ≡ [] = drop_of_length-le line past in
    rw none (rw append-nil (rw none at same))
