-- A picture cut after any number of rows of blocks: what is painted in front, and what behind, is what its bands show; and the first block
-- that meets a test is the first of the first band that has one. Of any rule for pixels, any size of block and any pitch.
-- Assumes nothing.
use mathlib.Core.Path.{◌≡◌, ◌∙◌, refl, sym, ap}
use mathlib.Core.Bool.{Bool, true, false, cond, ◌&&◌}
use mathlib.Core.List.{List, [], ◌∷◌, ◌++◌}
use Prim.Native.Nat.{ℕ, suc, ◌+◌, ◌-◌, ◌*◌, ◌/◌, ◌%◌, ◌<◌, ◌≤◌, min}
use native.Mathlib.Omega.{arith}
use native.Mathlib.Nat.{mul_comm, add-mul, mul-add, suc-mul, mul-zero, mul-le-mul_right, mul-add-div_right, mul-add-mod_self_right, div-lt_iff_lt-mul}
use native.Mathlib.Decide.{dec_lt}
use borrow.Author.Tests.{lt-ltb, le-ltb}
use lib.Dec.{T, ltb}
use lib.ListN.{length, get_or, take, drop, length-take, length-drop, length-append, get_or-append}
use lib.Seq.{ext_get_or, get_or-take, get_or-drop, drop-drop, get_or-append-add}
use Rattle.rules.specs.Pixel.{Shows}
use Rattle.rules.specs.Places.{column, row, inside, across, blocks, block_at, bytes_of, pixel_at, painted, picture_by}
use Rattle.rules.specs.Answers.{first_of}
use Rattle.rules.specs.declared.Picture.{Picture}
use Rattle.laws.proofs.Filled.{build_same}
use Rattle.laws.proofs.First.{first, only, first_alike}
use Rattle.laws.proofs.Paint.{length_painted, get_d_painted}
use Rattle.pixel.proofs.place.Grid.{covered, column_in, row_in}
use Rattle.bands.specs.Bands.{bytes_in, elements_in, top, below, first_bad, first_in_bands}

-- ---- the bytes of a block

module _ (s : ℕ) where
  -- block i ends where m blocks do, or before
  ends : (m i : ℕ) → i < m → i * s + s ≤ m * s
  ends m i h =
      let a : suc i * s ≤ m * s = mul-le-mul_right s h in
      let b : suc i * s ≡ i * s + s = suc-mul i s in
      omega arith

  -- of the first m blocks, block i is block i of all
  pub in_front : (m i : ℕ) (d : List ℕ) → i < m → bytes_of s (take (m * s) d) i ≡ bytes_of s d i
  in_front m i d h =
      let e : i * s + s ≤ m * s = ends m i h in
      ext_get_or 0 (bytes_of s (take (m * s) d) i) (bytes_of s d i)
      (simp (length-take, length-drop) (omega arith))
      (λ k q.
      let l : k < s = omega (arith, simp (length-take, length-drop) at q) in
      get_or-take s (drop (i * s) (take (m * s) d)) k 0 l
      ∙ get_or-drop (i * s) (take (m * s) d) k 0
      ∙ get_or-take (m * s) d (i * s + k) 0 (omega arith)
      ∙ sym (get_or-drop (i * s) d k 0)
      ∙ sym (get_or-take s (drop (i * s) d) k 0 l))

  -- and of those behind them it is block m + i
  pub behind : (m i : ℕ) (d : List ℕ) → bytes_of s (drop (m * s) d) i ≡ bytes_of s d (m + i)
  behind m i d = ap (take s) (drop-drop (i * s) (m * s) d ∙ ap (λ (z : ℕ). drop z d) (sym (add-mul m i s)))

-- ---- painting a list in two parts

-- painting by tests and values that agree on the elements that are there
painted_alike : (t u : ℕ → Bool) (v w : ℕ → ℕ) (old : List ℕ) → ((k : ℕ) → k < length old → t k ≡ u k) → ((k : ℕ) → k < length old → T (u k) → v k ≡ w k) → painted t v old ≡ painted u w old
unfolding painted
painted_alike t u v w old e f =
    build_same 0 (λ k. cond (t k) (v k) (get_or old k 0)) (λ k. cond (u k) (w k) (get_or old k 0)) (length old)
    (λ k h. ap (λ (b : Bool). cond b (v k) (get_or old k 0)) (e k h) ∙ agree (u k) (v k) (w k) (get_or old k 0) (f k h))
  where
    agree : (b : Bool) (x y z : ℕ) → (T b → x ≡ y) → cond b x z ≡ cond b y z
    agree true x y z h = h tt
    agree false x y z h = refl

-- the first a elements, and those behind them
pub parted : (t : ℕ → Bool) (v : ℕ → ℕ) (a : ℕ) (old : List ℕ) → painted t v old ≡ painted t v (take a old) ++ painted (λ k. t (a + k)) (λ k. v (a + k)) (drop a old)
parted t v a old =
    let front = painted t v (take a old) in
    let back = painted (λ k. t (a + k)) (λ k. v (a + k)) (drop a old) in
    let m : length front ≡ min a (length old) = length_painted t v (take a old) ∙ length-take a old in
    let n : length back ≡ length old - a = length_painted (λ k. t (a + k)) (λ k. v (a + k)) (drop a old) ∙ length-drop a old in
    let l : length (painted t v old) ≡ length old = length_painted t v old in
    ext_get_or 0 (painted t v old) (front ++ back) (l ∙ sym (length-append front back ∙ omega arith))
    (λ k q.
    let h : k < length old = omega arith in
    get_d_painted t v old k h
    ∙ elim (dec_lt k a) [
      | yes i ↦
          ap (λ (z : ℕ). cond (t k) (v k) z) (sym (get_or-take a old k 0 i))
          ∙ sym (get_d_painted t v (take a old) k (omega (arith, length-take a old, i)))
          ∙ sym (get_or-append front back 0 k (omega (arith, i)))
      | no i ↦
          let z : k ≡ a + (k - a) = omega (arith, i) in
          let y : k ≡ length front + (k - a) = omega (arith, i) in
          ap (λ (j : ℕ). cond (t j) (v j) (get_or old j 0)) z
          ∙ ap (λ (x : ℕ). cond (t (a + (k - a))) (v (a + (k - a))) x) (sym (get_or-drop a old (k - a) 0))
          ∙ sym (get_d_painted (λ k. t (a + k)) (λ k. v (a + k)) (drop a old) (k - a) (omega (arith, length-drop a old, i)))
          ∙ sym (get_or-append-add front back (k - a) 0)
          ∙ ap (λ (j : ℕ). get_or (front ++ back) j 0) (sym y)
    ])

-- ---- the pixels of a band

-- a test of a number that is so much greater
shifted : (a b c : ℕ) → ltb (a + b) c ≡ ltb b (c - a)
shifted a b c =
    elim (dec_lt (a + b) c) [
      | yes h ↦ lt-ltb (a + b) c h ∙ sym (lt-ltb b (c - a) (omega (arith, h)))
      | no h ↦ le-ltb (a + b) c (omega (arith, h)) ∙ sym (le-ltb b (c - a) (omega (arith, h)))
    ]

-- and of one that is below another bound anyhow
bounded : (a b c : ℕ) → a < b → ltb a c ≡ ltb a (min b c)
bounded a b c l =
    elim (dec_lt a c) [
      | yes h ↦ lt-ltb a c h ∙ sym (lt-ltb a (min b c) (omega (arith, h, l)))
      | no h ↦ le-ltb a c (omega (arith, h)) ∙ sym (le-ltb a (min b c) (omega (arith, h)))
    ]

-- four rows of pixels are a row of blocks
fours : (n y : ℕ) → ((n * 4 + y) / 4 ≡ n + y / 4) × ((n * 4 + y) % 4 ≡ y % 4)
fours n y = omega arith

-- a place of n rows of m
within : (m n x y : ℕ) → x < m → y < n → y * m + x < n * m
within m n x y h i =
    let a : suc y * m ≤ n * m = mul-le-mul_right m i in
    let b : suc y * m ≡ y * m + m = suc-mul y m in
    omega arith

module _ (p : Picture) (n : ℕ) where
  -- an element of the first n rows of blocks is one of the picture exactly when it is one of theirs
  inside_top : (k : ℕ) → k < elements_in p n → inside p k ≡ inside (top p n) k
  inside_top k h = elim (dec_lt 0 p.pitch) [
    | yes q ↦ ap (λ (b : Bool). ltb (column p k) p.width && b) (bounded (row p k) (n * 4) p.height ((div-lt_iff_lt-mul q).1 h))
    | no q ↦
        let z : p.pitch ≡ 0 = omega (arith, q) in
        let e : elements_in p n ≡ 0 = ap (λ (x : ℕ). n * 4 * x) z ∙ mul-zero (n * 4) in
        absurd (omega arith)
  ]

  -- and shows there what it shows in the picture
  pub pixel_top : (shows : Shows) (s : ℕ) (d : List ℕ) (k : ℕ) → T (inside (top p n) k) → pixel_at shows s (top p n) (take (bytes_in s p n) d) k ≡ pixel_at shows s p d k
  pixel_top shows s d k t =
      let x : column p k / 4 < across p.width = covered (column p k) p.width (column_in (top p n) k t) in
      let y : row p k / 4 < n = omega (arith, row_in (top p n) k t) in
      ap (λ (l : List ℕ). shows l (column p k % 4) (row p k % 4))
      (in_front s (n * across p.width) (block_at p k) d (within (across p.width) n (column p k / 4) (row p k / 4) x y))

  -- below them, where the picture has a column, an element has its column, and a row that is so much further down
  columns : (k : ℕ) → column p (elements_in p n + k) ≡ column p k
  columns k = mul-add-mod_self_right (n * 4) p.pitch k

  module _ (some : 0 < p.pitch) where
    rows : (k : ℕ) → row p (elements_in p n + k) ≡ n * 4 + row p k
    rows k = mul-add-div_right some (n * 4) k

    -- so its block is so many further on
    block_below : (k : ℕ) → block_at p (elements_in p n + k) ≡ n * across p.width + block_at p k
    block_below k =
        ap (λ (z : ℕ). row p (elements_in p n + k) / 4 * across p.width + z / 4) (columns k)
        ∙ ap (λ (z : ℕ). z / 4 * across p.width + column p k / 4) (rows k)
        ∙ ap (λ (z : ℕ). z * across p.width + column p k / 4) (fours n (row p k)).0
        ∙ ap (λ (z : ℕ). z + column p k / 4) (add-mul n (row p k / 4) (across p.width))
        ∙ omega arith

    -- and it shows what it shows in the picture
    pub pixel_below_lem : (shows : Shows) (s : ℕ) (d : List ℕ) (k : ℕ) → pixel_at shows s p d (elements_in p n + k) ≡ pixel_at shows s (below p n) (drop (bytes_in s p n) d) k
    pixel_below_lem shows s d k =
        ap (λ (z : ℕ). shows (bytes_of s d z) (column p (elements_in p n + k) % 4) (row p (elements_in p n + k) % 4)) (block_below k)
        ∙ ap (λ (l : List ℕ). shows l (column p (elements_in p n + k) % 4) (row p (elements_in p n + k) % 4)) (sym (behind s (n * across p.width) (block_at p k) d))
        ∙ ap (λ (z : ℕ). shows (bytes_of s (drop (bytes_in s p n) d) (block_at p k)) (z % 4) (row p (elements_in p n + k) % 4)) (columns k)
        ∙ ap (λ (z : ℕ). shows (bytes_of s (drop (bytes_in s p n) d) (block_at p k)) (column p k % 4) z)
        (ap (λ (z : ℕ). z % 4) (rows k) ∙ (fours n (row p k)).1)

    inside_below : (k : ℕ) → inside p (elements_in p n + k) ≡ inside (below p n) k
    inside_below k =
        ap (λ (z : ℕ). ltb z p.width && ltb (row p (elements_in p n + k)) p.height) (columns k)
        ∙ ap (λ (z : ℕ). ltb (column p k) p.width && ltb z p.height) (rows k)
        ∙ ap (λ (b : Bool). ltb (column p k) p.width && b) (shifted (n * 4) (row p k) p.height)

  module _ (shows : Shows) (s : ℕ) (d image : List ℕ) where
    -- the first n rows of blocks, painted over the front of the image, and what is below them, painted over the rest of it
    abbrev pub front : List ℕ
    front = picture_by shows (bytes_of s (take (bytes_in s p n) d)) (top p n) (take (elements_in p n) image)

    abbrev pub back : List ℕ
    back = picture_by shows (bytes_of s (drop (bytes_in s p n) d)) (below p n) (drop (elements_in p n) image)

    is_front : painted (inside p) (pixel_at shows s p d) (take (elements_in p n) image) ≡ front
    is_front =
        painted_alike (inside p) (inside (top p n)) (pixel_at shows s p d) (pixel_at shows s (top p n) (take (bytes_in s p n) d)) (take (elements_in p n) image)
        (λ k h. inside_top k (omega (arith, length-take (elements_in p n) image, h)))
        (λ k h t. sym (pixel_top shows s d k t))

    -- what the picture has behind
    abbrev is_behind : ℕ → Bool
    is_behind k = inside p (elements_in p n + k)

    abbrev pixel_behind : ℕ → ℕ
    pixel_behind k = pixel_at shows s p d (elements_in p n + k)

    -- a picture without a column has nothing
    none : (x : ℕ) (b : Bool) → p.width ≡ 0 → (ltb x p.width && b) ≡ false
    none x b e = ap (λ (t : Bool). t && b) (le-ltb x p.width (omega arith))

    is_back : p.width ≤ p.pitch → painted is_behind pixel_behind (drop (elements_in p n) image) ≡ back
    is_back fits =
        let pixel_below = pixel_at shows s (below p n) (drop (bytes_in s p n) d) in
        elim (dec_lt 0 p.pitch) [
          | yes q ↦
              painted_alike is_behind (inside (below p n)) pixel_behind pixel_below (drop (elements_in p n) image)
              (λ k h. inside_below q k)
              (λ k h t. pixel_below_lem q shows s d k)
          | no q ↦
              let z : p.width ≡ 0 = omega (arith, q) in
              painted_alike is_behind (inside (below p n)) pixel_behind pixel_below (drop (elements_in p n) image)
              (λ k h. none (column p (elements_in p n + k)) (ltb (row p (elements_in p n + k)) p.height) z ∙ sym (none (column p k) (ltb (row p k) (p.height - n * 4)) z))
              (λ k h t. absurd (omega (arith, column_in (below p n) k t, z)))
        ]

    -- "cut anywhere between block rows": both together are the picture
    pub cut_is_whole : p.width ≤ p.pitch → picture_by shows (bytes_of s d) p image ≡ front ++ back
    cut_is_whole fits =
        parted (inside p) (pixel_at shows s p d) (elements_in p n) image
        ∙ ap (λ (l : List ℕ). l ++ painted is_behind pixel_behind (drop (elements_in p n) image)) is_front
        ∙ ap (λ (l : List ℕ). front ++ l) (is_back fits)

-- ---- the first block that meets a test

module _ (test : ℕ → Bool) where
  -- of places of which some come first: the first of these, where there is one
  pub sooner : (a n : ℕ) → first_of test a < a → first_of test (a + n) ≡ first_of test a
  sooner a n h =
      let f = first test a in
      only test (a + n) (first_of test (a + n)) (first_of test a) (first test (a + n))
      (record { within = omega arith; found = λ q. f.found h; none = f.none })

  -- and where the test holds at none of them, the first of those after
  pub later : (a n : ℕ) → ((k : ℕ) → k < a → test k ≡ false) → first_of test (a + n) ≡ a + first_of (λ i. test (a + i)) n
  later a n none =
      let f = first (λ i. test (a + i)) n in
      only test (a + n) (first_of test (a + n)) (a + first_of (λ i. test (a + i)) n) (first test (a + n))
      (record {
        within = omega (arith, f.within);
        found = λ h. f.found (omega (arith, h));
        none =
            λ k h.
            elim (dec_lt k a) [
              | yes b ↦ none k b
              | no b ↦
                  let z : k ≡ a + (k - a) = omega (arith, b) in
                  ap test z ∙ f.none (k - a) (omega (arith, b))
            ];
      })

-- ---- how many blocks a band has

-- the rows of blocks of a side, cut after n of them
sides : (h n : ℕ) → across h ≡ across (min (n * 4) h) + across (h - n * 4)
sides h n = omega arith

-- no more than are cut off, and as many where something is left
most : (h n : ℕ) → across (min (n * 4) h) ≤ n
most h n = omega arith

full : (h n : ℕ) → 0 < across (h - n * 4) → across (min (n * 4) h) ≡ n
full h n q = omega arith

module _ (p : Picture) (n : ℕ) where
  -- the blocks of the picture are those of both
  pub blocks_cut : blocks p ≡ blocks (top p n) + blocks (below p n)
  blocks_cut =
      let m = across p.width in
      ap (λ (z : ℕ). m * z) (sides p.height n) ∙ mul-add m (across (min (n * 4) p.height)) (across (p.height - n * 4))

  -- the band has no more than n rows of them
  pub few : blocks (top p n) ≤ n * across p.width
  few =
      let m = across p.width in
      let a : across (min (n * 4) p.height) * m ≤ n * m = mul-le-mul_right m (most p.height n) in
      omega (arith, mul_comm m (across (min (n * 4) p.height)))

  -- and where a block is below them, exactly n
  pub all_before : 0 < blocks (below p n) → blocks (top p n) ≡ n * across p.width
  all_before h =
      let m = across p.width in
      elim (dec_lt 0 (across (p.height - n * 4))) [
        | yes q ↦ ap (λ (z : ℕ). m * z) (full p.height n q) ∙ mul_comm m n
        | no q ↦
            let z : across (p.height - n * 4) ≡ 0 = omega (arith, q) in
            let e : blocks (below p n) ≡ 0 = ap (λ (x : ℕ). m * x) z ∙ mul-zero m in
            absurd (omega arith)
      ]

-- ---- the first block that meets a test, of any cuts

module _ (bad : List ℕ → Bool) (s : ℕ) (p : Picture) (d : List ℕ) (n : ℕ) where
  -- a block of the first n rows, and one below them
  test_top : (i : ℕ) → i < blocks (top p n) → bad (bytes_of s (take (bytes_in s p n) d) i) ≡ bad (bytes_of s d i)
  test_top i h = ap bad (in_front s (n * across p.width) i d (omega (arith, few p n)))

  test_below : (i : ℕ) → i < blocks (below p n) → bad (bytes_of s (drop (bytes_in s p n) d) i) ≡ bad (bytes_of s d (blocks (top p n) + i))
  test_below i h =
      ap bad (behind s (n * across p.width) i d ∙ ap (λ (z : ℕ). bytes_of s d (z + i)) (sym (all_before p n (omega arith))))

  abbrev own : ℕ
  own = first_bad bad s (top p n) (take (bytes_in s p n) d)

  -- the first of all is that of the first n rows, or of what is below them
  pub first_cut : first_bad bad s p d ≡ cond (ltb own (blocks (top p n))) own (blocks (top p n) + first_bad bad s (below p n) (drop (bytes_in s p n) d))
  first_cut =
      let test : ℕ → Bool = λ i. bad (bytes_of s d i) in
      let e : first_of test (blocks (top p n)) ≡ own = sym (first_alike (λ i. bad (bytes_of s (take (bytes_in s p n) d) i)) test (blocks (top p n)) test_top) in
      ap (first_of test) (blocks_cut p n)
      ∙ elim (dec_lt own (blocks (top p n))) [
        | yes h ↦
            sooner test (blocks (top p n)) (blocks (below p n)) (omega (arith, e, h))
            ∙ e
            ∙ sym (ap (λ (b : Bool). cond b own (blocks (top p n) + first_bad bad s (below p n) (drop (bytes_in s p n) d))) (lt-ltb own (blocks (top p n)) h))
        | no h ↦
            later test (blocks (top p n)) (blocks (below p n)) (λ k q. (first test (blocks (top p n))).none k (omega (arith, e, h, q)))
            ∙ ap (λ (z : ℕ). blocks (top p n) + z)
            (sym (first_alike (λ i. bad (bytes_of s (drop (bytes_in s p n) d) i)) (λ i. test (blocks (top p n) + i)) (blocks (below p n)) test_below))
            ∙ sym (ap (λ (b : Bool). cond b own (blocks (top p n) + first_bad bad s (below p n) (drop (bytes_in s p n) d))) (le-ltb own (blocks (top p n)) (omega (arith, h))))
      ]

-- of any cuts: the first block of all is the first of the first band that has one, the blocks before it added
pub first_in_bands_lem : (bad : List ℕ → Bool) (s : ℕ) (cuts : List ℕ) (p : Picture) (d : List ℕ) → first_in_bands bad s cuts p d ≡ first_bad bad s p d
first_in_bands_lem bad s [] p d = refl
first_in_bands_lem bad s (n ∷ cuts) p d =
    let own = first_bad bad s (top p n) (take (bytes_in s p n) d) in
    ap (λ (z : ℕ). cond (ltb own (blocks (top p n))) own (blocks (top p n) + z)) (first_in_bands_lem bad s cuts (below p n) (drop (bytes_in s p n) d))
    ∙ sym (first_cut bad s p d n)
