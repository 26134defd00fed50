use Rattle.std.proofs.Common.{sym, subst, List, ℕ, [], ◌∷◌, ◌++◌}
use Rattle.byte_feed.specs.Reader.{Stands}
use Rattle.capture_vcd.proofs.Heads.{end_says, error_says, no_read_cause, token_says}
use Rattle.capture_vcd.proofs.opening.head_token.Goals as goal

pub returns-in-Ok-Some-clause-reads : goal.returns-in-Ok-Some-clause-reads
returns-in-Ok-Some-clause-reads g c =
    let next = rw c.in-Ok-Some.field-0-is at c.in-Ok-Some.ensures.next in
    record {
      bytes = next.bytes;
      consumed = next.consumed;
      says = λ before st.
          let r = next.answers before st.told st.items c.requires st.at_end st.stands in
          let stands = subst (λ (t : List ℕ). Stands c.next.new.self (before ++ next.bytes) r.0 (st.items ++ (c.in-Ok-Some.at, t) ∷ [])) (sym c.text.ensures) r.2 in
          token_says c.next.new.self c.token.new.self _ (before ++ next.bytes) r.0 _ r.1 stands (rw c.in-Ok-Some.field-0-is at c.in-Ok-Some.ensures.few) c.token.result (c.token.ensures.gives st.items st.begun);
    }

pub returns-in-Ok-Some-clause-cause : goal.returns-in-Ok-Some-clause-cause
returns-in-Ok-Some-clause-cause g c = no_read_cause _ _ c.token.result c.in-Ok-Some.ensures.cause c.token.ensures.no_read

pub returns-in-Ok-None-clause-reads : goal.returns-in-Ok-None-clause-reads
returns-in-Ok-None-clause-reads g c =
    let next = rw c.in-Ok-None.field-0-is at c.in-Ok-None.ensures.next in
    record {
      bytes = next.bytes;
      consumed = next.consumed;
      says = λ before st.
          let r = next.answers before st.told st.items c.requires st.at_end st.stands in
          end_says c.next.new.self c.args.header.now _ (before ++ next.bytes) st.items st.begun r.0 r.2;
    }

pub returns-in-Err-clause-reads : goal.returns-in-Err-clause-reads
returns-in-Err-clause-reads g c =
    let next = c.in-Err.ensures.next in
    record {
      bytes = next.bytes;
      consumed = next.consumed;
      says = λ before st.
          error_says c.next.new.self c.args.header.now _ (before ++ next.bytes) st.items st.begun c.in-Err.fault _ c.error_of.ensures.is (next.answers before st.told st.items c.requires st.at_end st.stands);
    }
