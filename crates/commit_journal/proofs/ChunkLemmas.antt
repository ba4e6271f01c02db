-- Lists in chunks of one length.
use Rattle.std.proofs.Common.{◌≡◌, ℕ, zero, suc, ◌+◌, ◌-◌, ◌*◌, ◌/◌, ◌%◌, ◌<◌, ◌≤◌, List, [], ◌∷◌, ◌++◌, length, take, map, get_or, refl, sym, ap, ◌∙◌, arith, length-append, zero-add}
use Rattle.std.specs.List.{AllByRecursion, flat_map}
use Rattle.std.proofs.lemmas.List.{get_or-map, get_or_append_left, get_or-append_right, length-map, map-append, take_more}
use Rattle.commit_journal.specs.declared.chunks.TheConstants.{CHUNK}

-- one element more of a list that is copied
pub map_more : {X Y : Type 0} (f : X → Y) (xs done : List X) (i : ℕ) (own new : X) → i < length xs → own ≡ get_or xs i own → f new ≡ f own
    → map f done ≡ take i (map f xs) → map f (done ++ new ∷ []) ≡ take (i + 1) (map f xs)
map_more f xs done i own new below is same before =
    let long = length-map xs f in
    let inside : i < length (map f xs) = omega arith in
    let item : f new ≡ get_or (map f xs) i (f own) = same ∙ ap f is ∙ sym (get_or-map f xs i own (f own) below) in
    rw (map-append f done (new ∷ []), before, take_more (map f xs) i (f own) inside, item) refl

module _ {C X : Type 0} (f : C → List X) where
  -- each chunk is whole
  abbrev pub Full : List C → Type 0
  Full chunks = AllByRecursion (λ chunk. length (f chunk) ≡ CHUNK) chunks

  -- how many elements whole chunks have
  pub length_joined : (chunks : List C) → Full chunks → length (flat_map f chunks) ≡ CHUNK * length chunks
  length_joined [] full = refl
  length_joined (chunk ∷ chunks) full = omega (arith, length-append (f chunk) (flat_map f chunks), full.0, length_joined chunks full.1)

  -- each of them is whole
  pub chunk_at : (chunks : List C) (q : ℕ) (c : C) → Full chunks → q < length chunks → length (f (get_or chunks q c)) ≡ CHUNK
  chunk_at [] q c full below = absurd (omega arith)
  chunk_at (chunk ∷ chunks) zero c full below = full.0
  chunk_at (chunk ∷ chunks) (suc q) c full below = chunk_at chunks q c full.1 (omega arith)

  -- the element at a place of a chunk
  at_place : (chunks : List C) (q r : ℕ) (c : C) (d : X) → Full chunks → q < length chunks → r < CHUNK
      → get_or (flat_map f chunks) (CHUNK * q + r) d ≡ get_or (f (get_or chunks q c)) r d
  at_place [] q r c d full below small = absurd (omega arith)
  at_place (chunk ∷ chunks) zero r c d full below small =
      let here : r < length (f chunk) = omega (arith, full.0) in
      rw zero-add (get_or_append_left (f chunk) (flat_map f chunks) d r here)
  at_place (chunk ∷ chunks) (suc q) r c d full below small =
      let past : CHUNK ≤ CHUNK * suc q + r = omega arith in
      let less : CHUNK * suc q + r - CHUNK ≡ CHUNK * q + r = omega arith in
      rw (get_or-append_right (f chunk) (flat_map f chunks) CHUNK (CHUNK * suc q + r) d full.0 past, less)
      (at_place chunks q r c d full.1 (omega arith) small)

  -- the element at a place of all chunks
  pub in_chunk : (chunks : List C) (i : ℕ) (c : C) (d : X) → Full chunks → i < length (flat_map f chunks)
      → get_or (flat_map f chunks) i d ≡ get_or (f (get_or chunks (i / CHUNK) c)) (i % CHUNK) d
  in_chunk chunks i c d full below =
      let cut : CHUNK * (i / CHUNK) + i % CHUNK ≡ i = omega arith in
      let inside : i / CHUNK < length chunks = omega (arith, below, length_joined chunks full) in
      rw cut at (at_place chunks (i / CHUNK) (i % CHUNK) c d full inside (omega arith))

  -- chunks with the same elements
  pub same_joined : (chunks shared : List C) → map f shared ≡ map f chunks → flat_map f shared ≡ flat_map f chunks
  same_joined [] [] same = refl
  same_joined [] (d ∷ shared) same = cc
  same_joined (c ∷ chunks) [] same = cc
  same_joined (c ∷ chunks) (d ∷ shared) same =
      let head : f d ≡ f c = cc in
      let tail : map f shared ≡ map f chunks = cc in
      rw (head, same_joined chunks shared tail) refl

  -- are as whole
  pub same_full : (chunks shared : List C) → map f shared ≡ map f chunks → Full chunks → Full shared
  same_full chunks [] same full = tt
  same_full [] (d ∷ shared) same full = cc
  same_full (c ∷ chunks) (d ∷ shared) same full =
      let head : f d ≡ f c = cc in
      let tail : map f shared ≡ map f chunks = cc in
      (ap length head ∙ full.0, same_full chunks shared tail full.1)

  -- one chunk more
  pub full_more : (chunks : List C) (chunk : C) → Full chunks → length (f chunk) ≡ CHUNK → Full (chunks ++ chunk ∷ [])
  full_more [] chunk full one = (one, tt)
  full_more (c ∷ chunks) chunk full one = (full.0, full_more chunks chunk full.1 one)
