-- What one more byte of a phase adds.
use Rattle.std.proofs.Common.{◌≡◌, ℕ, ◌==◌, Bool, true, false, if◌then◌else◌, List, [], ◌∷◌, ◌++◌}
use Rattle.std.proofs.Common.{refl, sym, ap}
use Rattle.la_base.specs.declared.wires.Out.{Out}
use Rattle.la_base.specs.declared.wires.Packet.{Packet}
use Rattle.decoder_core.specs.Outputs.{span_note}
use Rattle.i2c_phases.specs.Phases.{byte_of}
use Rattle.i2c_phases.specs.Bytes.{byte_note}
use Rattle.dev_lm75.specs.declared.held.Part.{Part}
use Rattle.dev_lm75.specs.declared.held.Part.TheVariants.{Fresh, Even, Half}
use Rattle.dev_lm75.specs.Thermometer.{half_degrees, pairs, read_outs, singles, write_outs}
use Rattle.dev_lm75.specs.laws.Held.{byte_gives, get_gives, left_of, next_part, pair_gives}
use Rattle.dev_lm75.specs.laws.Held.{set_gives}

singles_more : (class : ℕ) (bytes : List Packet) (p : Packet)
    → singles class (bytes ++ p ∷ []) ≡ singles class bytes ++ byte_gives class p
singles_more class [] p = refl
singles_more class (x ∷ bytes) p =
    ap (λ (l : List Out). byte_note class x (byte_of x) 0 ∷ l) (singles_more class bytes p)

pairs_more : (none : Part) (same : (class : ℕ) (p : Packet) → pair_gives class none p ≡ [])
    (class : ℕ) (bytes : List Packet) (p : Packet)
    → pairs class (bytes ++ p ∷ []) ≡ pairs class bytes ++ pair_gives class (left_of none bytes) p
pairs_more none same class [] p = sym (same class p)
pairs_more none same class (x ∷ []) p = refl
pairs_more none same class (x ∷ y ∷ bytes) p =
    ap (λ (l : List Out). span_note class x.start y.end (half_degrees x y) 0 ∷ l)
    (pairs_more none same class bytes p)

pub left_more : (none : Part) → ((p : Packet) → next_part none none p ≡ Half (byte_of p) p.start)
    → (bytes : List Packet) (p : Packet)
    → left_of none (bytes ++ p ∷ []) ≡ next_part none (left_of none bytes) p
left_more none starts [] p = sym (starts p)
left_more none starts (x ∷ []) p = refl
left_more none starts (x ∷ y ∷ bytes) p = left_more none starts bytes p

even_none : (class : ℕ) (p : Packet) → pair_gives class Even p ≡ []
even_none class p = refl

fresh_none : (class : ℕ) (p : Packet) → pair_gives class Fresh p ≡ []
fresh_none class p = refl

pub read_more : (at : ℕ) (bytes : List Packet) (p : Packet)
    → read_outs at (bytes ++ p ∷ []) ≡ read_outs at bytes ++ get_gives at (left_of Fresh bytes) p
read_more at bytes p = by (at == 1) (at == 2) (at == 3)
  where
    by : (t u v : Bool)
        → (if t then singles 2 (bytes ++ p ∷ [])
        else (if u then pairs 5 (bytes ++ p ∷ [])
        else (if v then pairs 7 (bytes ++ p ∷ []) else pairs 3 (bytes ++ p ∷ []))))
        ≡ (if t then singles 2 bytes
        else (if u then pairs 5 bytes else (if v then pairs 7 bytes else pairs 3 bytes)))
        ++ (if t then byte_gives 2 p
        else (if u then pair_gives 5 (left_of Fresh bytes) p
        else (if v then pair_gives 7 (left_of Fresh bytes) p
        else pair_gives 3 (left_of Fresh bytes) p)))
    by true u v = singles_more 2 bytes p
    by false true v = pairs_more Fresh fresh_none 5 bytes p
    by false false true = pairs_more Fresh fresh_none 7 bytes p
    by false false false = pairs_more Fresh fresh_none 3 bytes p

pub write_more : (at : ℕ) (bytes : List Packet) (p : Packet)
    → write_outs at (bytes ++ p ∷ []) ≡ write_outs at bytes ++ set_gives at (left_of Even bytes) p
write_more at bytes p = by (at == 1) (at == 2) (at == 3)
  where
    by : (t u v : Bool)
        → (if t then singles 1 (bytes ++ p ∷ [])
        else (if u then pairs 4 (bytes ++ p ∷ [])
        else (if v then pairs 6 (bytes ++ p ∷ []) else [])))
        ≡ (if t then singles 1 bytes
        else (if u then pairs 4 bytes else (if v then pairs 6 bytes else [])))
        ++ (if t then byte_gives 1 p
        else (if u then pair_gives 4 (left_of Even bytes) p
        else (if v then pair_gives 6 (left_of Even bytes) p else [])))
    by true u v = singles_more 1 bytes p
    by false true v = pairs_more Even even_none 4 bytes p
    by false false true = pairs_more Even even_none 6 bytes p
    by false false false = refl

-- no bytes give nothing
pub none_written : (at : ℕ) → write_outs at [] ≡ []
none_written at = by (at == 1) (at == 2) (at == 3)
  where
    by : (t u v : Bool)
        → (if t then singles 1 [] else (if u then pairs 4 [] else (if v then pairs 6 [] else [])))
        ≡ []
    by true u v = refl
    by false true v = refl
    by false false true = refl
    by false false false = refl

pub none_read : (at : ℕ) → read_outs at [] ≡ []
none_read at = by (at == 1) (at == 2) (at == 3)
  where
    by : (t u v : Bool)
        → (if t then singles 2 []
        else (if u then pairs 5 [] else (if v then pairs 7 [] else pairs 3 []))) ≡ []
    by true u v = refl
    by false true v = refl
    by false false true = refl
    by false false false = refl
