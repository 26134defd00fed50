-- The options that a word may name, and the values that each takes.
use Rattle.std.specs.Prelude.{ℕ, ◌≤◌, List, [], ◌∷◌, Option, Some, None, codes, find}
use Rattle.std.specs.Str.{bytes_eq}
use Rattle.la_base.specs.declared.samples.TheConstants.{MOST_PINS}
use Rattle.words.specs.Lexer.{Text}
use Rattle.words.specs.declared.options.Name.{Name}
use Rattle.words.specs.declared.options.Name.TheVariants.{Job, Format, Channels, Rate, Down, Csv}
use Rattle.words.specs.declared.options.Name.TheVariants.{Header, Threads, Ring, Show, Binary, Seed}
use Rattle.words.specs.declared.options.Name.TheVariants.{Count, From, Watch}

-- the values that an option takes: one of some texts, a number from the first to the second, a
-- rate, or any text
pub data ValueKind : Type 0 where
  OneOf : List Text → ValueKind
  Number : ℕ → ℕ → ValueKind
  Ratio : ValueKind
  Free : ValueKind

-- an option that takes numbers
abbrev pub IsNumber : ValueKind → Type 0
IsNumber (Number least most) = Unit {0}
IsNumber takes = ⊥

-- a number that such an option may be given
abbrev pub IsWithin : ValueKind → ℕ → Type 0
IsWithin (Number least most) number = (least ≤ number) × (number ≤ most)
IsWithin takes number = ⊥

-- an option: what stands behind its `--`, the values it takes, and the value that counts where it
-- isn't given, if one does
pub record Row : Type 0 where
  pub name : Text
  pub takes : ValueKind
  pub usual : Option Text

-- the table of options
abbrev pub row : Name → Row
row Job =
    record {
      name = codes "job";
      takes = OneOf (codes "decode" ∷ codes "find" ∷ codes "make" ∷ codes "part" ∷ []);
      usual = Some (codes "decode");
    }
row Format =
    record {
      name = codes "format";
      takes = OneOf (codes "raw" ∷ codes "vcd" ∷ codes "csv" ∷ []);
      usual = Some (codes "raw");
    }
row Channels =
    record { name = codes "channels"; takes = Number 1 MOST_PINS; usual = Some (codes "8") }
row Rate = record { name = codes "rate"; takes = Ratio; usual = Some (codes "1000000") }
row Down = record { name = codes "down"; takes = Number 1 1000000000; usual = Some (codes "1") }
row Csv =
    record {
      name = codes "csv";
      takes = OneOf (codes "rows" ∷ codes "times" ∷ []);
      usual = Some (codes "rows");
    }
row Header =
    record {
      name = codes "header";
      takes = OneOf (codes "yes" ∷ codes "no" ∷ []);
      usual = Some (codes "yes");
    }
row Threads =
    record {
      name = codes "threads";
      takes = OneOf (codes "yes" ∷ codes "no" ∷ []);
      usual = Some (codes "yes");
    }
row Ring = record { name = codes "ring"; takes = Number 1 16384; usual = Some (codes "256") }
row Show = record { name = codes "show"; takes = Free; usual = Some (codes "all") }
row Binary = record { name = codes "binary"; takes = Free; usual = None }
row Seed = record { name = codes "seed"; takes = Number 0 2147483647; usual = Some (codes "1") }
row Count = record { name = codes "count"; takes = Number 1 1000000; usual = Some (codes "1000") }
row From = record { name = codes "from"; takes = Free; usual = None }
row Watch =
    record {
      name = codes "watch";
      takes = OneOf (codes "yes" ∷ codes "no" ∷ []);
      usual = Some (codes "no");
    }

-- all options
abbrev pub names : List Name
names = Job ∷ Format ∷ Channels ∷ Rate ∷ Down ∷ Csv ∷ Header ∷ Threads ∷ Ring ∷ Show ∷ Binary ∷ Seed
    ∷ Count ∷ From ∷ Watch ∷ []

-- the option that a text names
abbrev pub name_of : Text → Option Name
name_of text = find (λ name. bytes_eq (row name).name text) names
