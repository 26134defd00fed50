-- Conditions that an edge alone can meet, where no line changes that they watch; and conditions of lines that are high, where one is low.
use Rattle.std.proofs.Common.{◌≡◌, ◌≢◌, inl, inr, ℕ, ◌+◌, ◌≤◌, ◌%◌, min, max, List, [], ◌∷◌, ◌++◌, Option, Some, sym, ◌∙◌, ap, subst, arith, bit_and, bit_or, bit_xor, None}
use Rattle.std.specs.Int.{bit_at}
use Rattle.std.proofs.lemmas.Nat.Bits.{bit_at_and, bit_at_or, bit_at_xor, bit_at-lt, bit_at-zero, same_from_bits}
use Rattle.std.proofs.lemmas.Bool.{cases_eq}
use Rattle.wait_cond.specs.Meets.{Rises, LinesHold, AllIn}
use Rattle.wait_cond.specs.Standing.{FirstStanding}
use Rattle.wait_cond.specs.Watching.{edge_lines, high_lines, Watches, AskHigh, SkipAtLeast, NeverMet}
use Rattle.wait_cond.specs.declared.alt.Alt.{Alt}
use Rattle.wait_cond.proofs.Masks.{all_in_no}
use Rattle.wait_cond.proofs.Sets.{get_push}

-- one alternative
pub watch_one : (alt : Alt) (lines : ℕ) → lines ≡ edge_lines alt → lines ≢ 0 → Watches lines (alt ∷ [])
watch_one alt lines is some i other got = elim (get_push [] alt i other got) [
  | inl none ↦ absurd cc
  | inr last ↦ subst (λ (a : Alt). (edge_lines a ≢ 0) × AllIn (edge_lines a) lines) last.1
      (subst (λ (n : ℕ). (n ≢ 0) × AllIn n lines) is (some, λ line one. one))
]

-- one more behind others
pub watch_more : (alts : List Alt) (alt : Alt) (watched lines all : ℕ) → lines ≡ edge_lines alt → Watches watched alts → (watched ≢ 0) × (lines ≢ 0) × (all ≡ bit_or watched lines) → Watches all (alts ++ alt ∷ [])
watch_more alts alt watched lines all is watches how i other got = elim (get_push alts alt i other got) [
  | inl front ↦ let w = watches i other front in (w.0, λ line one. inside line (omega (arith, w.1 line one)))
  | inr last ↦ subst (λ (a : Alt). (edge_lines a ≢ 0) × AllIn (edge_lines a) all) last.1
      (subst (λ (n : ℕ). (n ≢ 0) × AllIn n all) is (how.1, λ line one. inside line (omega (arith, one))))
]
  where
    inside : (line : ℕ) → 1 ≤ max (bit_at watched line) (bit_at lines line) → bit_at all line ≡ 1
    inside line some = omega (arith, ap (λ (n : ℕ). bit_at n line) how.2, bit_at_or watched lines line, bit_at-lt watched line, bit_at-lt lines line, some)

-- the same of lines that are asked to be high
pub ask_one : (alt : Alt) (lines : ℕ) → lines ≡ high_lines alt → AskHigh lines (alt ∷ [])
ask_one alt lines is i other got = elim (get_push [] alt i other got) [
  | inl none ↦ absurd cc
  | inr last ↦ subst (λ (a : Alt). AllIn lines (high_lines a)) last.1 (subst (λ (n : ℕ). AllIn lines n) is (λ line one. one))
]

pub ask_within : (alts : List Alt) (alt : Alt) (high lines : ℕ) → AllIn lines (high_lines alt) → AskHigh high alts → AskHigh (bit_and high lines) (alts ++ alt ∷ [])
ask_within alts alt high lines within asks i other got = elim (get_push alts alt i other got) [
  | inl front ↦ λ line one. asks i other front line (both line one).0
  | inr last ↦ subst (λ (a : Alt). AllIn (bit_and high lines) (high_lines a)) last.1 (λ line one. within line (both line one).1)
]
  where
    both : (line : ℕ) → bit_at (bit_and high lines) line ≡ 1 → (bit_at high line ≡ 1) × (bit_at lines line ≡ 1)
    both line one =
        let bit = bit_at_and high lines line in
        (omega (arith, bit, one, bit_at-lt high line, bit_at-lt lines line), omega (arith, bit, one, bit_at-lt high line, bit_at-lt lines line))

pub ask_more : (alts : List Alt) (alt : Alt) (high lines : ℕ) → lines ≡ high_lines alt → AskHigh high alts → AskHigh (bit_and high lines) (alts ++ alt ∷ [])
ask_more alts alt high lines is asks = ask_within alts alt high lines (λ line one. sym (ap (λ (n : ℕ). bit_at n line) is) ∙ one) asks

-- the same of the samples that are skipped
pub skip_one : (alt : Alt) → SkipAtLeast alt.skip (alt ∷ [])
skip_one alt i other got = elim (get_push [] alt i other got) [
  | inl none ↦ absurd cc
  | inr last ↦ omega (arith, ap (λ (a : Alt). a.skip) last.1)
]

pub skip_more : (alts : List Alt) (alt : Alt) (least all : ℕ) → all ≤ least → all ≤ alt.skip → SkipAtLeast least alts → SkipAtLeast all (alts ++ alt ∷ [])
skip_more alts alt least all first second skips i other got = elim (get_push alts alt i other got) [
  | inl front ↦ omega (arith, skips i other front, first)
  | inr last ↦ omega (arith, ap (λ (a : Alt). a.skip) last.1, second)
]

-- a line that rises is high
risen : (before : Option ℕ) (now line : ℕ) → Rises before now line → bit_at now line ≡ 1
risen None now line r = absurd r
risen (Some before) now line r = r.1

-- where one of them is low, none is met
pub never_low : (high now : ℕ) (before : Option ℕ) (alts : List Alt) → bit_and high now ≢ high → AskHigh high alts → NeverMet alts before now
never_low high now before alts not asks from q = record {
  each = λ i one. absurd (omega (arith, one, bit_at-zero i));
  all = λ i alt got meets. absurd (not (all_in_no high now (λ line one. is_high alt meets.lines line (asks i alt got line one))));
}
  where
    is_high : (alt : Alt) → LinesHold alt before now → (line : ℕ) → bit_at (high_lines alt) line ≡ 1 → bit_at now line ≡ 1
    is_high alt holds line one = elim (cases_eq (bit_at alt.high line) 1) [
      | inl is ↦ holds.high line is
      | inr not_high ↦ risen before now line (holds.rise line (omega (arith, one, not_high, bit_at_or alt.high alt.rise line, bit_at-lt alt.high line, bit_at-lt alt.rise line)))
    ]

module _ (watched before now : ℕ) (same : bit_and (bit_xor before now) watched ≡ 0) where
  -- a line that is watched doesn't change
  agrees : (line : ℕ) → bit_at watched line ≡ 1 → bit_at before line ≡ bit_at now line
  agrees line one =
      let bit : min ((bit_at before line + bit_at now line) % 2) (bit_at watched line) ≡ 0 =
      ap (λ (n : ℕ). min n (bit_at watched line)) (sym (bit_at_xor before now line)) ∙ sym (bit_at_and (bit_xor before now) watched line) ∙ ap (λ (n : ℕ). bit_at n line) same ∙ bit_at-zero line in
      omega (arith, bit, one, bit_at-lt before line, bit_at-lt now line)

  -- so an alternative whose lines hold asks no edge
  none_asked : (alt : Alt) → AllIn (edge_lines alt) watched → LinesHold alt (Some before) now → edge_lines alt ≡ 0
  none_asked alt among holds = same_from_bits (edge_lines alt) 0 at
    where
      no_edge : (line : ℕ) → bit_at (edge_lines alt) line ≡ 1 → ⊥
      no_edge line one =
          let stays = agrees line (among line one) in
          let first = bit_at_or (bit_or alt.rise alt.fall) alt.edge line in
          let second = bit_at_or alt.rise alt.fall line in
          elim (cases_eq (bit_at alt.rise line) 1) [
            | inl rise ↦ let r = holds.rise line rise in absurd (omega (arith, r.0, r.1, stays))
            | inr no_rise ↦ elim (cases_eq (bit_at alt.fall line) 1) [
              | inl fall ↦ let f = holds.fall line fall in absurd (omega (arith, f.0, f.1, stays))
              | inr no_fall ↦
                  let edge : bit_at alt.edge line ≡ 1 = omega (arith, one, first, second, no_rise, no_fall, bit_at-lt alt.rise line, bit_at-lt alt.fall line, bit_at-lt alt.edge line) in
                  elim (holds.edge line edge) [
                    | inl r ↦ absurd (omega (arith, r.0, r.1, stays))
                    | inr f ↦ absurd (omega (arith, f.0, f.1, stays))
                  ]
            ]
          ]

      at : (line : ℕ) → bit_at (edge_lines alt) line ≡ bit_at 0 line
      at line = elim (cases_eq (bit_at (edge_lines alt) line) 1) [
        | inl one ↦ absurd (no_edge line one)
        | inr not ↦ omega (arith, not, bit_at-lt (edge_lines alt) line, bit_at-zero line)
      ]

  -- and none is met
  pub never_met : (alts : List Alt) → Watches watched alts → NeverMet alts (Some before) now
  never_met alts watches from q = record {
    each = λ i one. absurd (omega (arith, one, bit_at-zero i));
    all = λ i alt got meets. let w = watches i alt got in absurd (w.0 (none_asked alt w.1 meets.lines));
  }

-- where a value can't meet any alternative while it stands, there is no first sample that does
pub never_standing : (alts : List Alt) (value from begin end : ℕ) → begin ≤ end → NeverMet alts (Some value) value → FirstStanding alts value from begin end end
never_standing alts value from begin end order never = record {
  after = order;
  within = omega arith;
  none = λ q after below m. absurd (omega (arith, (never from q).all m.0 m.1 m.2 m.3, bit_at-zero m.0));
  some = λ less. absurd (omega (arith, less));
}
