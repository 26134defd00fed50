-- `clap` takes the words that have no fault, and its rows are those of their uses.
use Rattle.std.proofs.Common.{◌≡◌, ℕ, ◌+◌, ◌&&◌, Bool, true, false, not, cond, List, [], ◌∷◌, ◌++◌, Some, None, Result, Ok, refl, sym, ◌∙◌, ap, fold}
use Rattle.words.specs.Lexer.{long_of}
use Rattle.clap.specs.Walk.{Row, Walk, has_row, walked}
use Rattle.clap.specs.Takes.{turn_passes, walk_passes}
use Rattle.text_parts.specs.Reading.{read_parts}
use Rattle.words.specs.App.{built_rules, chains_id, row_use, rows_of_uses}
use Rattle.words.specs.Lexer.{Text, begins_option}
use Rattle.words.specs.Options.{row}
use Rattle.words.specs.Uses.{Used, is_given, parts_from, takes_next, use_at, waits_for}
use Rattle.words.specs.declared.options.Name.{Name}
use Rattle.words.proofs.Rows.{not_given-no_row, without_none}
use Rattle.words.proofs.Shapes.{Shape, chain, joined, split, shape_of, then_read_ok}
use Rattle.words.proofs.Walking.{Pending, at_rest, chain_passes, chain_settle_passes, chain_walked, joined_passes, joined_walked, name_passes, name_walked, passes, plain_word_is, settles, top, value_passes, value_settle_passes, value_settles, value_walked, with_use}

-- what is held stands for the uses so far
pub record Stands (before : List Used) (rows : List Row) (pending : Pending) (skip : ℕ) : Type 0 where
  pub rows_are : settles pending rows ≡ rows_of_uses [] before
  pub good : passes rows pending skip ≡ true

-- the walk passes all the words, and then stands for the uses
pub record Taken (words : List Text) (w : Walk) (skip : ℕ) (uses : List Used) : Type 0 where
  pub passes_all : walk_passes top [] w words ≡ true
  pub last : Bool
  pub rows : List Row
  pub pending : Pending
  pub ends : fold (walked built_rules []) w words ≡ at_rest last rows pending skip
  pub stands : Stands uses rows pending skip

taken_none : (b : Bool) (rows : List Row) (pending : Pending) (skip : ℕ) (uses : List Used) → Stands uses rows pending skip → Taken [] (at_rest b rows pending skip) skip uses
unfolding walk_passes
taken_none b rows pending skip uses s = record { passes_all = refl; last = b; rows = rows; pending = pending; ends = refl; stands = s }

taken_more : (word : Text) (rest : List Text) (w after : Walk) (skip : ℕ) (uses : List Used) → turn_passes top [] w word ≡ true → walked built_rules [] w word ≡ after → Taken rest after skip uses
    → Taken (word ∷ rest) w skip uses
unfolding walk_passes
taken_more word rest w after skip uses good is t = record {
  passes_all = rw (good, is) t.passes_all;
  last = t.last;
  rows = t.rows;
  pending = t.pending;
  ends = rw is t.ends;
  stands = t.stands;
}

rows_push : (rows : List Row) (uses : List Used) (u : Used) → rows_of_uses rows (uses ++ u ∷ []) ≡ row_use (rows_of_uses rows uses) u
rows_push rows [] u = refl
rows_push rows (first ∷ uses) u = rows_push (row_use rows first) uses u

module _ (before uses : List Used) (rest : List Text) (skip : ℕ) (u : Used)
    (go : (b : Bool) (rows : List Row) (pending : Pending) → Stands (before ++ u ∷ []) rows pending skip → Taken rest (at_rest b rows pending skip) skip uses)
    (b : Bool) (rows : List Row) (pending : Pending) (s : Stands before rows pending skip) (number : ℕ) (word : Text) where
  chain_taken : begins_option word ≡ false → u ≡ record { name = None; word = number; text = word } → Taken (word ∷ rest) (at_rest b rows pending skip) skip uses
  chain_taken plain is =
      taken_more word rest _ _ skip uses (chain_passes b rows pending skip word (plain_word_is word plain) s.good) (chain_walked b rows pending skip word (plain_word_is word plain))
      (go true (settles pending rows) (Some (chains_id, word ∷ [])) (record {
        rows_are = ap (λ r. row_use r (record { name = None; word = number; text = word })) s.rows_are ∙ ap (row_use (rows_of_uses [] before)) (sym is) ∙ sym (rows_push [] before u);
        good = chain_settle_passes (settles pending rows) skip word;
      }))

  new_row : (name : Name) → is_given name before ≡ false → has_row (row name).name (settles pending rows) ≡ false
  new_row name new = ap (has_row (row name).name) s.rows_are ∙ not_given-no_row name before new

  with_use_is : (name : Name) (value : Text) (at : ℕ) → is_given name before ≡ false → u ≡ record { name = Some name; word = at; text = value }
      → with_use (row name).name value (settles pending rows) ≡ rows_of_uses [] (before ++ u ∷ [])
  with_use_is name value at new is =
      ap (λ r. row_use r (record { name = Some name; word = at; text = value })) (without_none (row name).name (settles pending rows) (new_row name new) ∙ s.rows_are)
      ∙ ap (row_use (rows_of_uses [] before)) (sym is) ∙ sym (rows_push [] before u)

  joined_taken : (name : Name) (value : Text) → long_of word ≡ Some ((row name).name, Some value) → is_given name before ≡ false → u ≡ record { name = Some name; word = number; text = value }
      → Taken (word ∷ rest) (at_rest b rows pending skip) skip uses
  joined_taken name value long new is =
      taken_more word rest _ _ skip uses (joined_passes b rows pending skip word name value long s.good (new_row name new)) (joined_walked b rows pending skip word name value long)
      (go false (with_use (row name).name value (settles pending rows)) None (record {
        rows_are = with_use_is name value number new is;
        good = refl;
      }))

  split_taken : (name : Name) (value : Text) → long_of word ≡ Some ((row name).name, None) → begins_option value ≡ false → is_given name before ≡ false
      → u ≡ record { name = Some name; word = number + 1; text = value }
      → Taken (word ∷ value ∷ rest) (at_rest b rows pending skip) skip uses
  split_taken name value long plain new is =
      taken_more word (value ∷ rest) _ _ skip uses (name_passes b rows pending skip word name long s.good) (name_walked b rows pending skip word name long)
      (taken_more value rest _ _ skip uses (value_passes (settles pending rows) skip value name (plain_word_is value plain)) (value_walked (settles pending rows) skip value name (plain_word_is value plain))
      (go false (settles pending rows) (Some ((row name).name, value ∷ [])) (record {
        rows_are = value_settles (settles pending rows) value name ∙ with_use_is name value (number + 1) new is;
        good = value_settle_passes (settles pending rows) skip value name (new_row name new);
      })))

  -- a word with no word for its value
  one_taken : Shape before (record { number = number; word = word; next = None }) u → Taken (word ∷ rest) (at_rest b rows pending skip) skip uses
  one_taken (chain plain is _) = chain_taken plain is
  one_taken (joined name value long new is _ _) = joined_taken name value long new is
  one_taken (split name value long next new is _ _) = cc

  -- a word whose value is the next
  two_taken : (next : Text) → waits_for (long_of word) ≡ true → begins_option next ≡ false → Shape before (record { number = number; word = word; next = Some next }) u
      → Taken (word ∷ next ∷ rest) (at_rest b rows pending skip) skip uses
  two_taken next waits plain (chain none is _) = let bad : false ≡ true = ap waits_for (sym (plain_word_is word none).no_long) ∙ waits in cc
  two_taken next waits plain (joined name value long new is _ _) = let bad : false ≡ true = ap waits_for (sym long) ∙ waits in cc
  two_taken next waits plain (split name value long same new is _ _) = let e : next ≡ value = cc in
      split_taken_at next value e name long plain new is
    where
      split_taken_at : (next value : Text) → next ≡ value → (name : Name) → long_of word ≡ Some ((row name).name, None) → begins_option next ≡ false → is_given name before ≡ false
          → u ≡ record { name = Some name; word = number + 1; text = value } → Taken (word ∷ next ∷ rest) (at_rest b rows pending skip) skip uses
      split_taken_at next value e name long plain new is = split_taken name next long plain new (is ∙ ap (λ t. record { name = Some name; word = number + 1; text = t }) (sym e))

ok_uses : {F : Type 0} (before uses : List Used) → ◌≡◌ {A = Result (List Used) F} (Ok before) (Ok uses) → before ≡ uses
ok_uses before uses e = cc

both : (a b : Bool) → true ≡ (a && not b) → (a ≡ true) × (b ≡ false)
both true true e = cc
both true false e = (refl, refl)
both false b e = cc

pub taken : (words : List Text) (number : ℕ) (before uses : List Used) (skip : ℕ) → read_parts use_at before (parts_from number words) ≡ Ok uses
    → (b : Bool) (rows : List Row) (pending : Pending) → Stands before rows pending skip → Taken words (at_rest b rows pending skip) skip uses
taken [] number before uses skip e b rows pending s = rw (ok_uses before uses e) at (taken_none b rows pending skip before s)
taken (word ∷ []) number before uses skip e b rows pending s =
    let p = then_read_ok (use_at before (record { number = number; word = word; next = None })) _ uses e in
    one_taken before uses [] skip p.0 (taken [] (number + 1) (before ++ p.0 ∷ []) uses skip p.2) b rows pending s number word (shape_of before _ p.0 p.1)
taken (word ∷ next ∷ rest) number before uses skip e b rows pending s =
    by (takes_next word next) refl e (taken rest (number + 2)) (taken (next ∷ rest) (number + 1))
  where
    by : (t : Bool) → t ≡ takes_next word next
        → read_parts use_at before (cond t (record { number = number; word = word; next = Some next } ∷ parts_from (number + 2) rest) (record { number = number; word = word; next = None } ∷ parts_from (number + 1) (next ∷ rest))) ≡ Ok uses
        → ((before uses : List Used) (skip : ℕ) → read_parts use_at before (parts_from (number + 2) rest) ≡ Ok uses
        → (b : Bool) (rows : List Row) (pending : Pending) → Stands before rows pending skip → Taken rest (at_rest b rows pending skip) skip uses)
        → ((before uses : List Used) (skip : ℕ) → read_parts use_at before (parts_from (number + 1) (next ∷ rest)) ≡ Ok uses
        → (b : Bool) (rows : List Row) (pending : Pending) → Stands before rows pending skip → Taken (next ∷ rest) (at_rest b rows pending skip) skip uses)
        → Taken (word ∷ next ∷ rest) (at_rest b rows pending skip) skip uses
    by true is e far near = let p = then_read_ok (use_at before (record { number = number; word = word; next = Some next })) _ uses e in
        let w = both (waits_for (long_of word)) (begins_option next) is in
        two_taken before uses rest skip p.0 (far (before ++ p.0 ∷ []) uses skip p.2) b rows pending s number word next w.0 w.1 (shape_of before _ p.0 p.1)
    by false is e far near = let p = then_read_ok (use_at before (record { number = number; word = word; next = None })) _ uses e in
        one_taken before uses (next ∷ rest) skip p.0 (near (before ++ p.0 ∷ []) uses skip p.2) b rows pending s number word (shape_of before _ p.0 p.1)
