-- A stage that keeps nothing.
use Rattle.std.proofs.Common.{◌≡◌, ℕ, zero, suc, Bool, true, false, List, [], ◌∷◌, length, map, replicate, refl, sym, ◌∙◌, ap, arith}
use Rattle.std.specs.List.{All}
use Rattle.std.specs.Prelude.{nat_eq, ◌&&◌}
use Rattle.std.proofs.lemmas.List.{append-nil, drop_all}
use Rattle.std.proofs.lemmas.List.Elements.{All-head, All-tail}
use Rattle.la_base.specs.declared.wires.Feed.{Feed}
use Rattle.la_base.specs.declared.wires.Mark.{Mark}
use Rattle.stage_ring.specs.declared.ends.Tx.{Tx}
use Rattle.stage_ring.specs.Link.{sent}
use Rattle.stage_run.specs.Boxes.{children_of, is_empty, keeps, served, told_of}
use Rattle.stage_run.specs.Rows.{Kept, waiting}
use Rattle.stage_run.specs.Stages.{all_sent, no_sending}
use Rattle.stage_run.specs.declared.outbox.Outbox.{Outbox}
use Rattle.stage_run.proofs.Coming.{none_of}

first : (a b : Bool) → (a && b) ≡ true → a ≡ true
first true b is = refl
first false b is = is

second : (a b : Bool) → (a && b) ≡ true → b ≡ true
second true b is = is
second false b is = let no : false ≡ true = is in absurd cc

pub is_closed : (closed : Bool) (outbox : Outbox) → (closed && is_empty outbox) ≡ true → closed ≡ true
is_closed closed outbox is = first closed (is_empty outbox) is

pub is_emptied : (closed : Bool) (outbox : Outbox) → (closed && is_empty outbox) ≡ true → is_empty outbox ≡ true
is_emptied closed outbox is = second closed (is_empty outbox) is

abbrev no_marks : Outbox → Bool
no_marks outbox = nat_eq (length outbox.kept_marks.list) 0

abbrev no_feeds : Outbox → Bool
no_feeds outbox = nat_eq (length outbox.fed.list) 0

none_told : (outbox : Outbox) → is_empty outbox ≡ true → outbox.kept_marks.list ≡ []
none_told outbox is = none_of outbox.kept_marks.list (first (no_marks outbox) (no_feeds outbox) (first (no_marks outbox && no_feeds outbox) (nat_eq outbox.place 0) is))

none_fed : (outbox : Outbox) → is_empty outbox ≡ true → outbox.fed.list ≡ []
none_fed outbox is = none_of outbox.fed.list (second (no_marks outbox) (no_feeds outbox) (first (no_marks outbox && no_feeds outbox) (nat_eq outbox.place 0) is))

none_behind : {T : Type 0} (row : Kept T) → row.list ≡ [] → waiting row ≡ []
none_behind row is = drop_all row.at row.list (omega (arith, ap length is))

-- all was sent to each
served_all : (place : ℕ) (row : Kept Feed) → row.list ≡ [] → (sents : List (List Feed)) → served place row sents ≡ map all_sent sents
served_all place row is [] = refl
served_all zero row is (s ∷ ss) = λ i. kept s (waiting row) (none_behind row is) i ∷ others ss i
  where
    kept : {T : Type 0} (s w : List T) → w ≡ [] → keeps w s ≡ all_sent s
    kept s w none = ap (λ l. keeps l s) none ∙ (λ i. record { made = append-nil s i; sent = s })

    others : (sents : List (List Feed)) → map (keeps row.list) sents ≡ map all_sent sents
    others [] = refl
    others (t ∷ ts) = λ i. kept t row.list is i ∷ others ts i
served_all (suc place) row is (s ∷ ss) = λ i. record { made = append-nil s i; sent = s } ∷ served_all place row is ss i

sents_map : (children : List (Tx Feed)) → map all_sent (map sent children) ≡ map (λ child. all_sent (sent child)) children
sents_map [] = refl
sents_map (x ∷ xs) = ap (λ l. all_sent (sent x) ∷ l) (sents_map xs)

pub empty_children : (outbox : Outbox) → is_empty outbox ≡ true → children_of outbox ≡ map (λ child. all_sent (sent child)) outbox.children.items
empty_children outbox is = served_all outbox.place outbox.fed (none_fed outbox is) (map sent outbox.children.items) ∙ sents_map outbox.children.items

pub empty_told : (outbox : Outbox) → is_empty outbox ≡ true → told_of outbox ≡ all_sent (sent outbox.marks)
empty_told outbox is = ap (λ l. keeps l (sent outbox.marks)) (none_behind outbox.kept_marks (none_told outbox is)) ∙ (λ i. record { made = append-nil (sent outbox.marks) i; sent = sent outbox.marks })

-- nothing was sent at all
none_sent : (children : List (Tx Feed)) → All (λ child. sent child ≡ []) children → map (λ child. all_sent (sent child)) children ≡ replicate (length children) no_sending
none_sent [] none = refl
none_sent (x ∷ xs) none = λ i. all_sent (All-head (λ child. sent child ≡ []) x xs none i) ∷ none_sent xs (All-tail (λ child. sent child ≡ []) x xs none) i

pub opened_children : (outbox : Outbox) → is_empty outbox ≡ true → (children : List (Tx Feed)) → outbox.children.items ≡ children → All (λ child. sent child ≡ []) children → replicate (length children) no_sending ≡ children_of outbox
opened_children outbox is children are none = sym (empty_children outbox is ∙ ap (map (λ child. all_sent (sent child))) are ∙ none_sent children none)

pub opened_told : (outbox : Outbox) → is_empty outbox ≡ true → (marks : Tx Mark) → outbox.marks ≡ marks → sent marks ≡ [] → no_sending ≡ told_of outbox
opened_told outbox is marks are none = sym (empty_told outbox is ∙ ap (λ m. all_sent (sent m)) are ∙ ap all_sent none)
