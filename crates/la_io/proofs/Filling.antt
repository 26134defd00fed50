-- A part of a buffer that gets more behind it, or loses its front.
use Rattle.std.proofs.Common.{◌≡◌, ℕ, ◌+◌, ◌-◌, ◌≤◌, List, [], ◌++◌, take, drop, length, sym, ◌∙◌, ap, arith, length-take-le, slice_range}
use Rattle.std.proofs.lemmas.List.{append-nil, take-append-le, drop-append-le, drop-drop, drop-take}
use Rattle.std.proofs.lemmas.Slice.{between_is}
use Rattle.la_io.proofs.Bytes.{take_past}
use borrow.Rule.Slice.PartMut.{put_mid, post_of}

-- more behind the part
pub filled : (buf ys : List ℕ) (start end k count : ℕ) → start ≤ end → end ≤ length buf → count ≤ length ys → slice_range (put_mid end k buf ys) start (end + count) ≡ slice_range buf start end ++ take count ys
filled buf ys start end k count order within few =
    let front = take end buf in
    let front_len : length front ≡ end = length-take-le end buf within in
    let upto : take (end + count) (front ++ (ys ++ post_of end k buf)) ≡ front ++ take count ys =
    ap (λ (n : ℕ). take (n + count) (front ++ (ys ++ post_of end k buf))) (sym front_len)
    ∙ take_past front (ys ++ post_of end k buf) count
    ∙ ap (λ (l : List ℕ). front ++ l) (take-append-le count ys (post_of end k buf) few) in
    between_is (put_mid end k buf ys) start (end + count)
    ∙ ap (λ (l : List ℕ). drop start l) upto
    ∙ drop-append-le start front (take count ys) (omega (arith, front_len))
    ∙ ap (λ (l : List ℕ). l ++ take count ys) (sym (between_is buf start end))

-- the part without its front
pub let_go : (buf : List ℕ) (start end count : ℕ) → start + count ≤ end → slice_range buf (start + count) end ≡ drop count (slice_range buf start end)
let_go buf start end count within =
    let same : end - start ≡ count + (end - (start + count)) = omega arith in
    ap (λ (l : List ℕ). take (end - (start + count)) l) (sym (drop-drop count start buf))
    ∙ sym (drop-take count (end - (start + count)) (drop start buf))
    ∙ ap (λ (n : ℕ). drop count (take n (drop start buf))) (sym same)

-- nothing stands between a place and itself
pub none_between : (buf : List ℕ) (start end : ℕ) → end ≤ start → slice_range buf start end ≡ []
none_between buf start end order = let none : end - start ≡ 0 = omega arith in ap (λ (n : ℕ). take n (drop start buf)) none

-- what is held in a part of a buffer, and more behind it
pub read_behind : (buf ys held : List ℕ) (start end k count : ℕ) → start ≤ end → end ≤ length buf → count ≤ length ys → slice_range buf start end ≡ held → slice_range (put_mid end k buf ys) start (end + count) ≡ held ++ take count ys
read_behind buf ys held start end k count order within few is =
    filled buf ys start end k count order within few ∙ ap (λ (l : List ℕ). l ++ take count ys) is

-- and nothing behind it
pub still_held : (buf ys held : List ℕ) (start end k : ℕ) → start ≤ end → end ≤ length buf → slice_range buf start end ≡ held → slice_range (put_mid end k buf ys) start end ≡ held
still_held buf ys held start end k order within is =
    let none : end ≡ end + 0 = omega arith in
    ap (λ (n : ℕ). slice_range (put_mid end k buf ys) start n) none ∙ filled buf ys start end k 0 order within (omega arith) ∙ append-nil (slice_range buf start end) ∙ is
