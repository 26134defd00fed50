-- Conditions of which masks say all.
use Rattle.std.proofs.Common.{◌≡◌, ◌≤◌, inl, inr, ℕ, List, [], ◌∷◌, ◌++◌, Some, refl, sym, ◌∙◌, ◌^◌, ◌%◌, bit_and, bit_or, ap, subst, arith, length, length-append}
use Rattle.wait_cond.specs.Conds.{IsExact, IsKept, IsTimer, OnlySkips}
use Rattle.wait_cond.specs.Pairs.{Says, SaysAll}
use Rattle.std.specs.Int.Bits.{xor_self}
use Rattle.std.proofs.lemmas.Bool.Decides.{leb_tells}
use Rattle.la_base.proofs.Halves.{low_bit, no_bit}
use Rattle.wait_cond.specs.Meets.{AllIn}
use Rattle.std.proofs.lemmas.Nat.Bits.{bit_at-zero}
use Rattle.wait_cond.specs.Watching.{edge_lines, high_lines, AskHigh, NeverMet, Watches}
use Rattle.wait_cond.specs.declared.alt.Alt.{Alt}
use Rattle.wait_cond.specs.declared.pair.Pair.{Pair}
use Rattle.wait_cond.proofs.Sets.{get_push}
use Rattle.wait_cond.proofs.WatchLemmas.{watch_one, watch_more, ask_one, ask_within, skip_one, never_met}

pub exact_one : (alt : Alt) → SaysAll alt → IsExact (alt ∷ [])
exact_one alt all = record {
  few = omega arith;
  each = λ i other got. elim (get_push [] alt i other got) [ inl none ↦ absurd cc | inr last ↦ subst (λ (a : Alt). SaysAll a) last.1 all ];
}

pub exact_two : (alts : List Alt) (alt : Alt) → length alts ≡ 1 → IsExact alts → SaysAll alt → IsExact (alts ++ alt ∷ [])
exact_two alts alt one exact all = record {
  few = omega (arith, one, length-append alts (alt ∷ []));
  each = λ i other got. elim (get_push alts alt i other got) [ inl front ↦ exact.each i other front | inr last ↦ subst (λ (a : Alt). SaysAll a) last.1 all ];
}

-- what is kept of one alternative
pub kept_one : (alt : Alt) (watched high : ℕ) (pair : Pair) → watched ≡ edge_lines alt → high ≡ high_lines alt → (SaysAll alt → Says pair (alt ∷ [])) → IsKept (alt ∷ []) watched high alt.skip pair
kept_one alt watched high pair edges asked says = record {
  some = omega arith;
  watches = λ not_zero. watch_one alt watched edges not_zero;
  asks = ask_one alt high asked;
  skips = skip_one alt;
  says = λ exact. says (exact.each 0 alt refl);
}

-- one more behind the first
pub says_more : (pair more : Pair) (alts : List Alt) (alt : Alt) → 1 ≤ length alts → (IsExact alts → Says pair alts) → IsExact (alts ++ alt ∷ [])
    → ((first : Alt) → Says pair (first ∷ []) → SaysAll alt → Says more (first ∷ alt ∷ [])) → Says more (alts ++ alt ∷ [])
says_more pair more [] alt some says exact both = absurd (omega (arith, some))
says_more pair more (first ∷ []) alt some says exact both = both first (says (exact_one first (exact.each 0 first refl))) (exact.each 1 alt refl)
says_more pair more (first ∷ second ∷ rest) alt some says exact both = absurd (omega (arith, exact.few, length-append rest (alt ∷ [])))

-- the lines that are asked to be high, of those of the lower half
half_in : (lines : ℕ) → AllIn (lines % 2 ^ 64) lines
half_in lines line one = elim (leb_tells 64 line) [
  | inl above ↦ absurd (omega (arith, one, no_bit lines line above.1))
  | inr below ↦ sym (low_bit lines line below.1) ∙ one
]

pub half_one : (alt : Alt) (half : ℕ) → half ≡ high_lines alt % 2 ^ 64 → AskHigh half (alt ∷ [])
half_one alt half is i other got = subst (λ (n : ℕ). AllIn n (high_lines other)) (sym is) (λ line one. ask_one alt (high_lines alt) refl i other got line (half_in (high_lines alt) line one))

pub half_more : (first alt : Alt) (high half : ℕ) → half ≡ high_lines alt % 2 ^ 64 → AskHigh high (first ∷ []) → AskHigh (bit_and high half) (first ∷ alt ∷ [])
half_more first alt high half is asks = ask_within (first ∷ []) alt high half (subst (λ (n : ℕ). AllIn n (high_lines alt)) (sym is) (half_in (high_lines alt))) asks

-- each of the alternatives asks an edge
watched : (alts : List Alt) → IsExact alts → (lines : ℕ) × Watches lines alts
watched [] exact = (0, λ i alt got. absurd cc)
watched (a ∷ []) exact = (edge_lines a, watch_one a (edge_lines a) refl (exact.each 0 a refl).edge)
watched (a ∷ b ∷ []) exact =
    let first = watch_one a (edge_lines a) refl (exact.each 0 a refl).edge in
    (bit_or (edge_lines a) (edge_lines b), watch_more (a ∷ []) b (edge_lines a) (edge_lines b) (bit_or (edge_lines a) (edge_lines b)) refl first ((exact.each 0 a refl).edge, (exact.each 1 b refl).edge, refl))
watched (a ∷ b ∷ c ∷ rest) exact = absurd (omega (arith, exact.few))

pub exact_stands : (alts : List Alt) → IsExact alts → (value : ℕ) → NeverMet alts (Some value) value
exact_stands alts exact value = let w = watched alts exact in never_met w.0 value value (ap (λ (n : ℕ). bit_and n w.0) (xor_self value)) alts w.1

-- an alternative that only skips asks no edge, and no line to be high
no_edges : (alt : Alt) → OnlySkips alt → edge_lines alt ≡ 0
no_edges alt only =
    ap (λ (n : ℕ). bit_or (bit_or n alt.fall) alt.edge) only.rise ∙ ap (λ (n : ℕ). bit_or (bit_or 0 n) alt.edge) only.fall ∙ ap (λ (n : ℕ). bit_or (bit_or 0 0) n) only.edge

no_high : (alt : Alt) → OnlySkips alt → high_lines alt ≡ 0
no_high alt only = ap (λ (n : ℕ). bit_or n alt.rise) only.high ∙ ap (λ (n : ℕ). bit_or 0 n) only.rise

pub timer_one : (alt : Alt) → OnlySkips alt → IsTimer (alt ∷ []) alt.skip
timer_one alt only = record { alt = alt; is = refl; only = only; skips = refl }

-- masks say nothing of it
pub kept_timer : (alt : Alt) (pair : Pair) → OnlySkips alt → IsKept (alt ∷ []) 0 0 alt.skip pair
kept_timer alt pair only = record {
  some = omega arith;
  watches = λ some. absurd (some refl);
  asks = λ i other got line one. absurd (omega (arith, one, bit_at-zero line));
  skips = skip_one alt;
  says = λ exact. absurd ((exact.each 0 alt refl).edge (no_edges alt only));
}
