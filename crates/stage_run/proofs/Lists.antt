-- Lists of outputs, marks and feeds, in parts.
use Rattle.std.proofs.lemmas.List.{take_more}
use Rattle.std.proofs.Common.{take, get_or, length-take, ◌≡◌, ℕ, ◌+◌, ◌≤◌, ◌<◌, List, [], ◌∷◌, ◌++◌, length, refl, sym, ◌∙◌, ap, arith, append_assoc, length-append}
use Rattle.la_base.specs.declared.wires.Packet.{Packet}
use Rattle.la_base.specs.declared.wires.Feed.{Feed}
use Rattle.la_base.specs.declared.wires.Feed.TheVariants.{Packet as PacketFeed}
use Rattle.la_base.specs.declared.wires.Mark.{Mark}
use Rattle.la_base.specs.declared.wires.Out.{Out}
use Rattle.la_base.specs.declared.wires.Out.TheVariants.{Note as NoteOut, Piece as PieceOut, Packet as PacketOut}
use Rattle.decoder_core.specs.Inputs.{Item, items_of}
use Rattle.tree_io.specs.Feeds.{marks_of}
use Rattle.tree_io.proofs.Taking.{marks-append}
use Rattle.stack_laws.specs.Feeds.{feeds_of, items_in}

pub feeds-append : (xs ys : List Out) → feeds_of (xs ++ ys) ≡ feeds_of xs ++ feeds_of ys
feeds-append [] ys = refl
feeds-append (NoteOut n ∷ xs) ys = feeds-append xs ys
feeds-append (PieceOut n ∷ xs) ys = feeds-append xs ys
feeds-append (PacketOut n ∷ xs) ys = ap (λ (l : List Feed). PacketFeed n ∷ l) (feeds-append xs ys)

pub items-append : (xs ys : List Feed) → items_in (xs ++ ys) ≡ items_in xs ++ items_in ys
items-append [] ys = refl
items-append (x ∷ xs) ys = ap (λ (l : List Item). items_of x ++ l) (items-append xs ys) ∙ sym (append_assoc (items_of x) (items_in xs) (items_in ys))

pub marks_few : (xs : List Out) → length (marks_of xs) ≤ length xs
marks_few [] = omega arith
marks_few (NoteOut n ∷ xs) = omega (arith, marks_few xs)
marks_few (PieceOut n ∷ xs) = omega (arith, marks_few xs)
marks_few (PacketOut n ∷ xs) = omega (arith, marks_few xs)

pub feeds_few : (xs : List Out) → length (feeds_of xs) ≤ length xs
feeds_few [] = omega arith
feeds_few (NoteOut n ∷ xs) = omega (arith, feeds_few xs)
feeds_few (PieceOut n ∷ xs) = omega (arith, feeds_few xs)
feeds_few (PacketOut n ∷ xs) = omega (arith, feeds_few xs)

-- one more output
pub marks_next : (xs : List Out) (i : ℕ) (x : Out) (old made : List Mark) → i < length xs → x ≡ get_or xs i x → made ≡ old ++ marks_of (take i xs) → made ++ marks_of (x ∷ []) ≡ old ++ marks_of (take (i + 1) xs)
marks_next xs i x old made within is so_far =
    ap (λ (l : List Mark). l ++ marks_of (x ∷ [])) so_far
    ∙ append_assoc old (marks_of (take i xs)) (marks_of (x ∷ []))
    ∙ ap (λ (l : List Mark). old ++ l) (sym (marks-append (take i xs) (x ∷ []))
    ∙ ap (λ (o : Out). marks_of (take i xs ++ o ∷ [])) is
    ∙ ap marks_of (sym (take_more xs i x within)))

pub feeds_next : (xs : List Out) (i : ℕ) (x : Out) (old made : List Feed) → i < length xs → x ≡ get_or xs i x → made ≡ old ++ feeds_of (take i xs) → made ++ feeds_of (x ∷ []) ≡ old ++ feeds_of (take (i + 1) xs)
feeds_next xs i x old made within is so_far =
    ap (λ (l : List Feed). l ++ feeds_of (x ∷ [])) so_far
    ∙ append_assoc old (feeds_of (take i xs)) (feeds_of (x ∷ []))
    ∙ ap (λ (l : List Feed). old ++ l) (sym (feeds-append (take i xs) (x ∷ []))
    ∙ ap (λ (o : Out). feeds_of (take i xs ++ o ∷ [])) is
    ∙ ap feeds_of (sym (take_more xs i x within)))

pub marks_space : (xs : List Out) (i : ℕ) (old made : List Mark) → length old + length xs ≤ 64 → i < length xs → made ≡ old ++ marks_of (take i xs) → length made < 64
marks_space xs i old made few within is = omega (arith, ap length is, length-append old (marks_of (take i xs)), marks_few (take i xs), length-take i xs)

pub feeds_space : (xs : List Out) (i : ℕ) (old made : List Feed) → length old + length xs ≤ 64 → i < length xs → made ≡ old ++ feeds_of (take i xs) → length made < 64
feeds_space xs i old made few within is = omega (arith, ap length is, length-append old (feeds_of (take i xs)), feeds_few (take i xs), length-take i xs)

-- what is no packet gives no feed
pub none_in : (x : Out) → ((p : Packet) → x ≡ PacketOut p → ⊥) → feeds_of (x ∷ []) ≡ []
none_in (NoteOut n) not = refl
none_in (PieceOut n) not = refl
none_in (PacketOut p) not = absurd (not p refl)

pub marks_made : (xs : List Out) (n : ℕ) (old made : List Mark) → made ≡ old ++ marks_of (take n xs) → length made ≤ length old + length xs
marks_made xs n old made is = omega (arith, ap length is, length-append old (marks_of (take n xs)), marks_few (take n xs), length-take n xs)

pub feeds_made : (xs : List Out) (n : ℕ) (old made : List Feed) → made ≡ old ++ feeds_of (take n xs) → length made ≤ length old + length xs
feeds_made xs n old made is = omega (arith, ap length is, length-append old (feeds_of (take n xs)), feeds_few (take n xs), length-take n xs)
