-- How a tag keeps its text: at the front of its bytes, and zeros after it.
-- No public clause cites this module.
use Rattle.std.proofs.Common.{◌≡◌, ℕ, ◌-◌, ◌≤◌, List, ◌++◌, length, take, replicate, sym, ap, ◌∙◌, arith}
use Rattle.std.proofs.lemmas.List.{length-take-le}
use Rattle.line_forms.specs.declared.tag.TheConstants.{TAG_MOST}
use Rattle.line_forms.specs.declared.tag.Tag.TheInside.{Inside}

-- the text
abbrev pub text_of : Inside → List ℕ
text_of tag = take tag.length tag.bytes

-- the fields that keep a text
abbrev pub fields_of : List ℕ → Inside
fields_of text =
    record { bytes = text ++ replicate (TAG_MOST - length text) 0; length = length text }

-- the bytes after the text are zeros
pub record IsZeroPadded (tag : Inside) : Type 0 where
  pub size : length tag.bytes ≡ TAG_MOST
  pub short : tag.length ≤ TAG_MOST
  pub zeros : tag.bytes ≡ take tag.length tag.bytes ++ replicate (TAG_MOST - tag.length) 0

-- the text gives the fields back
pub fields_again : (tag : Inside) → IsZeroPadded tag → fields_of (text_of tag) ≡ tag
fields_again tag padded =
    let fits : tag.length ≤ length tag.bytes = omega (arith, padded.size, padded.short) in
    let same : length (take tag.length tag.bytes) ≡ tag.length =
    length-take-le tag.length tag.bytes fits in
    let Fields : ℕ → Inside = λ (n : ℕ). record {
      bytes = take tag.length tag.bytes
          ++ replicate (TAG_MOST - n) 0;
      length = n;
    } in
    let Whole : List ℕ → Inside =
    λ (bytes : List ℕ). record { bytes = bytes; length = tag.length } in
    ap Fields same ∙ ap Whole (sym padded.zeros)
