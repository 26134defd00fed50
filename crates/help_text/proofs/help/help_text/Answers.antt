use Rattle.std.proofs.Common.{◌≡◌, ◌++◌, ◌∙◌, List, ℕ, take, ap, subst, sym, arith, append_assoc}
use Rattle.std.specs.String.{string_bytes}
use Rattle.kind_table.specs.declared.kinds.Kind.TheVariants.{I2c}
use Rattle.kind_table.specs.declared.table.TheConstants.{KINDS}
use Rattle.words.specs.declared.options.Name.TheVariants.{Job}
use Rattle.words.specs.declared.options.TheConstants.{OPTIONS}
use Rattle.help_text.specs.declared.help.TheConstants.{CLOSING, DECODERS, USAGE}
use Rattle.help_text.specs.Help.{TellsEach, TellsKind, TellsOption}
use Rattle.help_text.proofs.Telling.{tells_next}
use Rattle.help_text.proofs.help.help_text.Goals as goal

pub loop-name-preserved : goal.loop-name-preserved
loop-name-preserved c =
    let i = c.loop-name.invariant in
    let part = c.as_str.result.now in
    let tells = subst (TellsOption _) (sym c.as_str.ensures.value) c.in_ok-option_text.ensures in (
      i.0 ++ part,
      c.in_ok-push_str.ensures.bytes ∙ ap (λ (l : List ℕ). l ++ part) i.1 ∙ append_assoc (string_bytes c.in_ok-text.text) i.0 part,
      tells_next TellsOption OPTIONS c.loop-name.name-index Job i.0 part c.loop-name-test.true i.2 tells,
    )

pub loop-kind-preserved : goal.loop-kind-preserved
loop-kind-preserved c =
    let i = c.loop-kind.invariant in
    let part = c.as_str-in-loop-kind.result.now in
    let tells = subst (TellsKind _) (sym c.as_str-in-loop-kind.ensures.value) c.in_ok-kind_text.ensures in (
      i.0 ++ part,
      c.in_ok-push_str-3.ensures.bytes ∙ ap (λ (l : List ℕ). l ++ part) i.1 ∙ append_assoc (string_bytes c.push_str-2.new.self) i.0 part,
      tells_next TellsKind KINDS c.loop-kind.kind-index I2c i.0 part c.loop-kind-test.true i.2 tells,
    )

pub returns : goal.returns
returns c =
    let named = c.loop-name.invariant in
    let kinds = c.loop-kind.invariant in
    let all_named : c.loop-name.name-index ≡ 15 = omega (arith, c.loop-name-test.false, c.loop-name.auto.name-index-end) in
    let all_kinds : c.loop-kind.kind-index ≡ 12 = omega (arith, c.loop-kind-test.false, c.loop-kind.auto.kind-index-end) in
    let first : string_bytes c.loop-name.text ≡ USAGE.now ++ named.0 = named.1 ∙ ap (λ (l : List ℕ). l ++ named.0) c.in_ok-text.ensures.ok in
    let second : string_bytes c.push_str-2.new.self ≡ string_bytes c.loop-name.text ++ DECODERS.now = c.in_ok-push_str-2.ensures.bytes in
    let third : string_bytes c.push_str-3.new.self ≡ string_bytes c.loop-kind.text ++ CLOSING.now = c.in_ok-push_str-4.ensures.bytes in
    record {
      options_told = named.0;
      options = subst (λ (n : ℕ). TellsEach TellsOption (take n OPTIONS) named.0) all_named named.2;
      kinds_told = kinds.0;
      each_kind = subst (λ (n : ℕ). TellsEach TellsKind (take n KINDS) kinds.0) all_kinds kinds.2;
      is =
          third ∙ ap (λ (l : List ℕ). l ++ CLOSING.now) (kinds.1 ∙ ap (λ (l : List ℕ). l ++ kinds.0) (second ∙ ap (λ (l : List ℕ). l ++ DECODERS.now) first));
    }
