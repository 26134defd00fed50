-- What a store has, how it changes, and the rule that it and what its threads know keep.
use Rattle.std.specs.Prelude.{ℕ, ◌≡◌, true, List, ◌++◌, Option, Some}
use mathlib.Core.Option.{some}
use lib.ListN.{get_elem?}
use Rattle.logbook.specs.Pages.{Book}
use Rattle.view_store.specs.declared.added.Added.{Added}
use Rattle.la_base.specs.declared.wires.Note.{Note}
use Rattle.view_store.specs.Blocks.{notes_in, notes_of_block}
use Rattle.view_store.specs.declared.store.Store.{Store}
use Rattle.view_store.specs.declared.store.Content.{Content}
use Rattle.view_store.specs.declared.store.Change.{Change}
use Rattle.view_store.specs.declared.store.Change.TheVariants.{Add, Keep}
use Rattle.view_store.specs.declared.rule.Name.{Name}
use Rattle.view_store.specs.Listings.{is_listing, notes_of}

abbrev pub content_of : Store → Content
content_of store =
    record { notes = notes_in store.blocks.items; seen = store.front.seen }

-- a content after a change
abbrev pub with_change : Content → Change → Content
with_change content (Add block) = record content { notes = content.notes ++ notes_of_block block }
with_change content (Keep front) = record content { seen = front.seen }

-- these are the notes that were added
pub record Owes (these : List (ℕ × Note)) (log : List Added) : Type 0 where
  pub notes : these ≡ notes_of log

-- a content has just what its history says
pub record IsTied (content : Content) : Type 0 where
  pub owes : Owes content.notes content.seen.log
  pub legal : is_listing content.seen.log ≡ true

-- which history it is
abbrev pub name_of : Book → Name
name_of book =
    record { number = book.number; log_name = book.log_name; cells_name = book.cells_name }

-- the store has just what its history says, and each thread that knows a name knows that of this
-- history
pub record IsNamed (store : Store) (views : List (Option Name)) : Type 0 where
  pub tied : IsTied (content_of store)
  pub one : (seat : ℕ) (name : Name) → get_elem? views seat ≡ some (Some name)
      → name ≡ name_of store.front.seen.book

-- the store was looked at
pub record Looked (before : Option Name) (store : Store) (after : Option Name) : Type 0 where
  pub tied : IsTied (content_of store)
  pub one : (name : Name) → before ≡ Some name → name ≡ name_of store.front.seen.book
  pub same : after ≡ before
