use Rattle.std.proofs.Common.{ℕ, ◌≡◌, ◌++◌, ◌∙◌, List, [], ◌∷◌, map, sym, ap, append_assoc}
use Rattle.std.proofs.lemmas.List.{append-nil}
use Rattle.std.proofs.lemmas.List.Folds.{flat_map-map}
use Rattle.std.specs.List.{concat, flat_map}
use Rattle.std.specs.String.{string_bytes}
use Rattle.kind_table.specs.Kinds.{OptionRow, kind_row, opt_row}
use Rattle.help_text.specs.Decoders.{classes_told, group_told, kind_line, options_told}
use Rattle.help_text.specs.Meanings.{meanings_of}
use Rattle.help_text.proofs.decoders.kind_text.Goals as goal

-- three parts behind a first one
in_order : (text one two three told_one told_two told_three first second third : List ℕ) → told_one ≡ first → told_two ≡ second → told_three ≡ third → one ≡ text ++ told_one → two ≡ one ++ told_two → three ≡ two ++ told_three
    → three ≡ concat (text ∷ first ∷ second ∷ third ∷ [])
in_order text one two three told_one told_two told_three first second third is_first is_second is_third is_one is_two is_three =
    is_three ∙ ap (λ (l : List ℕ). l ++ told_three) (is_two ∙ ap (λ (l : List ℕ). l ++ told_two) is_one)
    ∙ ap (λ (l : List ℕ). l ++ told_three) (append_assoc text told_one told_two) ∙ append_assoc text (told_one ++ told_two) told_three
    ∙ ap (λ (l : List ℕ). text ++ l) (append_assoc told_one told_two told_three
    ∙ ap (λ (l : List ℕ). l ++ (told_two ++ told_three)) is_first
    ∙ ap (λ (l : List ℕ). first ++ (l ++ told_three)) is_second
    ∙ ap (λ (l : List ℕ). first ++ (second ++ l)) (is_third ∙ sym (append-nil third)))

pub returns : goal.returns
returns c =
    let kind = c.args.kind in
    let rows : map opt_row c.options_of-rows.result.now ≡ (kind_row kind).options = c.options_of-rows.ensures.options in
    let options : c.as_str.result.now ≡ options_told 0 (meanings_of kind) (kind_row kind).options =
    c.as_str.ensures.value ∙ c.in_ok-options.ensures
    ∙ ap (λ (l : List (List ℕ)). options_told 0 l (map opt_row c.options_of-rows.result.now)) c.meanings_of.ensures.meanings
    ∙ ap (λ (l : List OptionRow). options_told 0 (meanings_of kind) l) rows in
    let groups : c.as_str-2.result.now ≡ flat_map (λ group. group_told (kind_row kind).options group) (kind_row kind).groups =
    c.as_str-2.ensures.value ∙ c.in_ok-groups.ensures
    ∙ ap (λ (l : List OptionRow). flat_map (λ group. group_told l group.now) c.groups_of.result.now) rows
    ∙ sym (flat_map-map (λ (group : List ℕ). group_told (kind_row kind).options group) (λ group. group.now) c.groups_of.result.now)
    ∙ ap (λ (l : List (List ℕ)). flat_map (λ group. group_told (kind_row kind).options group) l) c.groups_of.ensures in
    let classes : c.as_str-3.result.now ≡ classes_told (kind_row kind).classes =
    c.as_str-3.ensures.value ∙ c.in_ok-classes.ensures ∙ ap classes_told c.classes_of.ensures.classes in
    let text : string_bytes c.in_ok-text.text ≡ kind_line kind = c.in_ok-text.ensures in
    in_order (string_bytes c.in_ok-text.text) (string_bytes c.push_str.new.self) (string_bytes c.push_str-2.new.self) (string_bytes c.push_str-3.new.self) _ _ _ _ _ _
    options groups classes c.in_ok-push_str.ensures.bytes c.in_ok-push_str-2.ensures.bytes c.in_ok-push_str-3.ensures.bytes
    ∙ ap (λ (l : List ℕ). concat (l ∷ options_told 0 (meanings_of kind) (kind_row kind).options ∷ flat_map (λ group. group_told (kind_row kind).options group) (kind_row kind).groups ∷ classes_told (kind_row kind).classes ∷ [])) text
