use Rattle.std.proofs.Common.{◌≡◌, ◌∙◌, None, refl, length, map, option_map, ap, sym}
use Rattle.std.specs.Prelude.{option_and_then}
use Rattle.std.specs.String.{string_bytes}
use Rattle.text_parts.specs.Chains.{chain_of}
use Rattle.words.specs.Given.{used_of}
use Rattle.words.specs.Settings.{Values, fault_behind, unless_all, use_of, value_of, word_text}
use Rattle.words.specs.Uses.{chains_of}
use Rattle.words.specs.declared.options.Name.TheVariants.{Binary, From, Show}
use Rattle.words.proofs.KeptRules.{are_good, chains_fit, shown_fits, text_fits, value_fits}
use Rattle.words.proofs.ReadableLemmas.{readable}
use Rattle.words.proofs.read.read_words.Goals as goal

pub settings-requires-clause-good : goal.settings-requires-clause-good
settings-requires-clause-good c = rw c.deref.ensures.value (are_good (map string_bytes c.args.words.now) (map used_of c.in-Ok.uses.items) c.in-Ok.ensures.reads)

pub fault_behind-requires : goal.fault_behind-requires
fault_behind-requires c =
    let same : map chain_of c.in-Ok-settings.settings.chains.items ≡ map word_text (chains_of (map used_of c.in-Ok.uses.items)) =
    ap (λ (v : Values). v.chains) c.in-Ok-settings.ensures ∙ ap (λ gs. map word_text (chains_of (map used_of gs))) c.deref.ensures.value in
    rw c.deref-2.ensures.value (chains_fit (map string_bytes c.args.words.now) (map used_of c.in-Ok.uses.items) c.in-Ok.ensures.reads c.in-Ok-settings.settings.chains.items same)

pub returns-in-None-clause-readable : goal.returns-in-None-clause-readable
returns-in-None-clause-readable c =
    let same : map chain_of c.in-Ok-settings.settings.chains.items ≡ map word_text (chains_of (map used_of c.in-Ok.uses.items)) =
    ap (λ (v : Values). v.chains) c.in-Ok-settings.ensures ∙ ap (λ gs. map word_text (chains_of (map used_of gs))) c.deref.ensures.value in
    let short = chains_fit (map string_bytes c.args.words.now) (map used_of c.in-Ok.uses.items) c.in-Ok.ensures.reads c.in-Ok-settings.settings.chains.items same in
    let none : None ≡ fault_behind (length c.args.words.now) c.in-Ok-settings.settings.job (map chain_of c.in-Ok-settings.settings.chains.items) =
    sym c.in-Ok-None.field-0-is ∙ c.in-Ok-None.ensures ∙ ap (λ chains. fault_behind (length c.args.words.now) c.in-Ok-settings.settings.job (map chain_of chains)) c.deref-2.ensures.value in
    readable (length c.args.words.now) c.in-Ok-settings.settings.job c.in-Ok-settings.settings.chains.items none short

pub returns-in-None-clause-shown : goal.returns-in-None-clause-shown
returns-in-None-clause-shown c =
    let same : option_map chain_of c.in-Ok-settings.settings.show ≡ option_and_then unless_all (use_of Show (map used_of c.in-Ok.uses.items)) =
    ap (λ (v : Values). v.show) c.in-Ok-settings.ensures ∙ ap (λ gs. option_and_then unless_all (use_of Show (map used_of gs))) c.deref.ensures.value in
    shown_fits (map string_bytes c.args.words.now) (map used_of c.in-Ok.uses.items) c.in-Ok.ensures.reads c.in-Ok-settings.settings.show same

pub returns-in-None-clause-binary : goal.returns-in-None-clause-binary
returns-in-None-clause-binary c =
    let same : option_map chain_of c.in-Ok-settings.settings.binary ≡ option_map word_text (use_of Binary (map used_of c.in-Ok.uses.items)) =
    ap (λ (v : Values). v.binary) c.in-Ok-settings.ensures ∙ ap (λ gs. option_map word_text (use_of Binary (map used_of gs))) c.deref.ensures.value in
    value_fits (map string_bytes c.args.words.now) (map used_of c.in-Ok.uses.items) c.in-Ok.ensures.reads Binary c.in-Ok-settings.settings.binary same

pub returns-in-None-clause-from : goal.returns-in-None-clause-from
returns-in-None-clause-from c =
    let same : option_map string_bytes c.in-Ok-settings.settings.from ≡ value_of From (map used_of c.in-Ok.uses.items) =
    ap (λ (v : Values). v.from) c.in-Ok-settings.ensures ∙ ap (λ gs. value_of From (map used_of gs)) c.deref.ensures.value in
    text_fits (map string_bytes c.args.words.now) (map used_of c.in-Ok.uses.items) c.in-Ok.ensures.reads From refl c.in-Ok-settings.settings.from same
