-- Lemmas on the samples in memory, as one more is kept.
use Rattle.std.proofs.Common.{◌≡◌, ℕ, ◌+◌, ◌-◌, ◌<◌, ◌≤◌, nat_le, Bool, true, false, cond, List, [], ◌∷◌, ◌++◌, length, map, drop, get_or}
use Rattle.std.proofs.Common.{refl, sym, ap, ◌∙◌, subst, arith, append-nil}
use Rattle.std.proofs.lemmas.Bool.Decides.{nat_tests}
use Rattle.std.proofs.lemmas.List.{drop-append-le, drop-map, get_or-append_right, get_or-drop, get_or_append_left, length-append, length-drop, length-map, map-append}
use Rattle.hamming_model.specs.Scan.{Ask}
use Rattle.hamming_model.specs.Scan as ask
use Rattle.exchange_model.specs.Rounds.{PlainSample}
use Rattle.exchange_model.specs.declared.limits.TheConstants.{SAMPLES_MOST, SAMPLE_RADIUS_MOST}
use Rattle.layout_search.specs.Improves.{AreSamples, IsSmallSample, plain_sample}
use Rattle.layout_search.specs.declared.sample.Sample.{Sample}
use Rattle.session_model.specs.Searches.{newest_of, sample_of}
use Rattle.session_model.proofs.SampleLemmas.{last_few}
use Rattle.open_session.specs.Samples.{SamplesJoined}

-- ---- the last of a list with one more

pub last_all : {A : Type 0} (most : ℕ) (list : List A) → length list ≤ most → newest_of most list ≡ list
last_all most list few =
    let none : length list - most ≡ 0 = omega (arith, few) in
    ap (λ n. drop n list) none

pub last_more : {A : Type 0} (most : ℕ) (list : List A) (one : A) → length list < most → list ++ one ∷ [] ≡ newest_of most (list ++ one ∷ [])
last_more most list one few = sym (last_all most (list ++ one ∷ []) (omega (arith, few, length-append list (one ∷ []))))

pub last_full : {A : Type 0} (most : ℕ) (list : List A) (one : A) → 0 < most → length list ≡ most
    → drop 1 list ++ one ∷ [] ≡ newest_of most (list ++ one ∷ [])
last_full most list one some full =
    let first : 1 ≡ length (list ++ one ∷ []) - most = omega (arith, full, length-append list (one ∷ [])) in
    sym (drop-append-le 1 list (one ∷ []) (omega (arith, some, full))) ∙ ap (λ n. drop n (list ++ one ∷ [])) first

map_last : {A B : Type 0} (f : A → B) (most : ℕ) (list : List A) → map f (newest_of most list) ≡ newest_of most (map f list)
map_last f most list =
    sym (drop-map f (length list - most) list) ∙ ap (λ n. drop (n - most) (map f list)) (sym (length-map list f))

-- ---- what is a sample

at_most : (a b : ℕ) → a ≤ b → nat_le a b ≡ true
at_most a b le = grind (arith, nat_tests)

beyond : (a b : ℕ) → b < a → nat_le a b ≡ false
beyond a b lt = grind (arith, nat_tests)

pub small_range : (tau : ℕ) (code : List ℕ) → tau ≤ SAMPLE_RADIUS_MOST
    → sample_of (ask.Range tau code) ≡ record { query = code; tau = tau } ∷ []
small_range tau code small =
    ap {B = List PlainSample} (λ b. cond b (record { query = code; tau = tau } ∷ []) []) (at_most tau SAMPLE_RADIUS_MOST small)

pub wide_range : (tau : ℕ) (code : List ℕ) → SAMPLE_RADIUS_MOST < tau → sample_of (ask.Range tau code) ≡ []
wide_range tau code wide =
    ap {B = List PlainSample} (λ b. cond b (record { query = code; tau = tau } ∷ []) []) (beyond tau SAMPLE_RADIUS_MOST wide)

-- ---- the samples

module _ {W : ℕ} (bits : ℕ) (kept : List (Sample W)) where
  pub joined_none : (asked : Ask) → length kept ≤ SAMPLES_MOST → sample_of asked ≡ [] → SamplesJoined bits asked kept kept
  joined_none asked few none =
      let plain = map (plain_sample bits) kept in
      sym (ap (λ l. newest_of SAMPLES_MOST (plain ++ l)) none ∙ ap (newest_of SAMPLES_MOST) (append-nil plain)
      ∙ last_all SAMPLES_MOST plain (omega (arith, few, length-map kept (plain_sample {W = W} bits))))

  module _ (sample : Sample W) where
    pub joined_one : (asked : Ask) → sample_of asked ≡ plain_sample bits sample ∷ []
        → SamplesJoined bits asked kept (newest_of SAMPLES_MOST (kept ++ sample ∷ []))
    joined_one asked one =
        map_last (plain_sample bits) SAMPLES_MOST (kept ++ sample ∷ [])
        ∙ ap (newest_of SAMPLES_MOST) (map-append (plain_sample bits) kept (sample ∷ [])
        ∙ ap (λ l. map (plain_sample bits) kept ++ l) (sym one))

    small_at : (k : ℕ) (other : Sample W) → k < length (kept ++ sample ∷ []) → AreSamples bits kept → IsSmallSample bits sample
        → (early : Bool) → nat_le (length kept) k ≡ early → IsSmallSample bits (get_or (kept ++ sample ∷ []) k other)
    small_at k other inside are small false early =
        let low : k < length kept = grind (arith, nat_tests) in
        subst (IsSmallSample bits) (sym (get_or_append_left kept (sample ∷ []) other k low)) (are.each k other low)
    small_at k other inside are small true late =
        let high : length kept ≤ k = grind (arith, nat_tests) in
        let here : k - length kept ≡ 0 = omega (arith, inside, high, length-append kept (sample ∷ [])) in
        subst (IsSmallSample bits)
        (sym (get_or-append_right kept (sample ∷ []) (length kept) k other refl high ∙ ap (λ n. get_or (sample ∷ []) n other) here)) small

    pub samples_with : AreSamples bits kept → IsSmallSample bits sample → AreSamples bits (newest_of SAMPLES_MOST (kept ++ sample ∷ []))
    samples_with are small =
        let all = kept ++ sample ∷ [] in
        let from = length all - SAMPLES_MOST in
        record {
          few = last_few SAMPLES_MOST all;
          each = λ k other inside.
              let at : from + k < length all = omega (arith, inside, length-drop from all) in
              subst (IsSmallSample bits) (sym (get_or-drop from all k other))
              (small_at (from + k) other at are small (nat_le (length kept) (from + k)) refl);
        }
