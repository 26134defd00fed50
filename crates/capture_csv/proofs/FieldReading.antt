-- What a read of a record says of its fields.
use Rattle.std.proofs.Common.{◌≡◌, ℕ, List, [], refl, sym, ◌∙◌, subst, Option, Some, None, Bool, true, false}
use Rattle.csv.specs.Machine.{Read, next_record}
use Rattle.csv.specs.Reading.{NextIs, ReadsNext, default_config}
use Rattle.csv.specs.declared.parser.Config.{Config}
use Rattle.csv.specs.declared.parser.State.{State}
use Rattle.csv.specs.declared.parser.State.TheVariants as st
use Rattle.capture_csv.specs.Fields.{fields_in, record_fields}

found_fields : (o : Option Read) (found : Bool) (fields : List (List ℕ)) (s : State) (rest : List ℕ) → NextIs o found fields s rest → found ≡ true → fields ≡ record_fields o
found_fields None found fields s rest next is = let bad : true ≡ false = sym is ∙ next in cc
found_fields (Some read) found fields s rest next is = next.1

no_fields : (o : Option Read) (found : Bool) (fields : List (List ℕ)) (s : State) (rest : List ℕ) → NextIs o found fields s rest → found ≡ false → [] ≡ record_fields o
no_fields None found fields s rest next is = refl
no_fields (Some read) found fields s rest next is = let bad : false ≡ true = sym is ∙ next.0 in cc

module _ (cfg : Config) (s t : State) (source after : Option (List ℕ)) (found : Bool) (fields : List (List ℕ)) (line : List ℕ) (reads : ReadsNext cfg s source after found fields t)
    (cfg_is : cfg ≡ default_config) (s_is : s ≡ st.StartRecord) (source_is : source ≡ Some line) where
  from_start : ReadsNext default_config st.StartRecord (Some line) after found fields t
  from_start =
      subst (λ (c : Config). ReadsNext c st.StartRecord (Some line) after found fields t) cfg_is
      (subst (λ (x : State). ReadsNext cfg x (Some line) after found fields t) s_is
      (subst (λ (o : Option (List ℕ)). ReadsNext cfg s o after found fields t) source_is reads))

  by_after : (P : Type 0) → ((rest : List ℕ) → NextIs (next_record default_config st.StartRecord [] [] line) found fields t rest → P) → (o : Option (List ℕ)) → ReadsNext default_config st.StartRecord (Some line) o found fields t → P
  by_after P use_next None h = absurd h
  by_after P use_next (Some rest) h = use_next rest h

  pub line_found : found ≡ true → fields ≡ fields_in line
  unfolding fields_in
  line_found is = by_after (fields ≡ record_fields (next_record default_config st.StartRecord [] [] line)) (λ rest next. found_fields (next_record default_config st.StartRecord [] [] line) found fields t rest next is) after from_start

  pub line_empty : found ≡ false → [] ≡ fields_in line
  unfolding fields_in
  line_empty is = by_after ([] ≡ record_fields (next_record default_config st.StartRecord [] [] line)) (λ rest next. no_fields (next_record default_config st.StartRecord [] [] line) found fields t rest next is) after from_start
