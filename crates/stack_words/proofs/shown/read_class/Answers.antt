use Rattle.std.proofs.Common.{◌≡◌, ◌∙◌, ℕ, List, map, Option, Some, None, Ok, Err, Result, slice_get, sym, ap, subst, rules}
use Rattle.std.specs.Prelude.{IfSome}
use Rattle.std.specs.List.{before_first, after_first}
use Rattle.text_parts.specs.Reading.{then_read}
use Rattle.kind_table.specs.Kinds.{Text}
use Rattle.stack_words.specs.declared.faults.StackFault.{StackFault}
use Rattle.stack_words.specs.declared.faults.StackWhy.TheVariants.{Unknown}
use Rattle.stack_words.specs.Accepting.{class_at, class_in, class_of_name, class_place, known}
use Rattle.stack_words.specs.Instances.{Instance, place_named}
use Rattle.stack_words.specs.Meaning.{instance_of}
use Rattle.stack_words.specs.Options.{is_colon}
use Rattle.stack_words.proofs.shown.read_class.Goals as goal

-- the instance is there, and has no such class
no_class : (instances : List Instance) (word : ℕ) (text : Text) (place : ℕ) → place_named instances (before_first is_colon text) ≡ Some place → class_in (slice_get instances place) (after_first is_colon text) ≡ None
    → class_of_name instances word text ≡ Err (record { word = word; at = class_place text; why = Unknown })
no_class instances word text place there none =
    ap (λ (o : Option ℕ). then_read (known word 0 o) (class_at instances word text)) there
    ∙ ap (λ (o : Option ℕ). then_read (known word (class_place text) o) (λ class. Ok (place, class))) none

pub returns-in-None-clause-gives : goal.returns-in-None-clause-gives
returns-in-None-clause-gives c =
    let list = map instance_of c.args.instances.now in
    let text = c.args.text.now in
    let there : place_named list (before_first is_colon text) ≡ Some c.in-Some.place = search rules in
    let none : class_in (slice_get list c.in-Some.place) (after_first is_colon text) ≡ None = search rules in
    let at : class_place text ≡ c.min-at.result = search rules in
    subst (λ (o : Option StackFault). IfSome o (λ fault. class_of_name list c.args.word text ≡ Err fault)) (sym c.fault-in-None.ensures)
    (no_class list c.args.word text c.in-Some.place there none ∙ ap {B = Result (ℕ × ℕ) StackFault} (λ (n : ℕ). Err (record { word = c.args.word; at = n; why = Unknown })) at)
