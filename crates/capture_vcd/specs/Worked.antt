-- Worked captures, which the definition computes.
use Rattle.std.specs.Prelude.{ℕ, pos, ◌≡◌, ◌^◌, ◌+◌, List, [], ◌∷◌, ◌++◌, codes}
use Rattle.la_io.specs.declared.fault.CaptureFault.TheVariants.{NoDefinitions, NoTimescale, TimeBack, TimeLarge, Token}
use Rattle.la_io.specs.Capture.{AtEnd, Cut, Good, Bad, Unread, Clean, Faulty, Open}
use Rattle.capture_vcd.specs.Body.{Reaches, Sets, words_from}
use Rattle.capture_vcd.specs.Vcd.{vcd_capture}

-- a change at 0, and one at 2^40
abbrev pub sparse : List ℕ
sparse = codes "$timescale 1 ns $end\n$var wire 1 ! A $end\n$enddefinitions $end\n#0 0!\n#1099511627776 1!\n"

pub record WorkedFiles : Type 0 where
  -- a vector, a real, and a value of x
  pub vector : vcd_capture 1 (0 ∷ 1 ∷ 2 ∷ 3 ∷ []) (codes "$timescale 10ns $end\n$var wire 4 ! q $end\n$var real 64 \" v $end\n$enddefinitions $end\n$dumpvars b1 ! r0 \" $end\n#4\n#5 b1010 !\n#6 bx1 !\n#7\n") AtEnd
      ≡ record { head = Good (codes "q.0" ∷ codes "q.1" ∷ codes "q.2" ∷ codes "q.3" ∷ []) (10 ^ 9) 10; settled = 1 ∷ 10 ∷ 1 ∷ 1 ∷ []; ending = Clean }
  -- a time that falls
  pub falls : (vcd_capture 1 (0 ∷ []) (codes "$timescale 1 ns $end\n$var wire 1 ! A $end\n$enddefinitions $end\n#0 0!\n#5 0!\n#3 0!\n") AtEnd).ending ≡ Faulty (TimeBack 75 (pos 5) (pos 3))
  pub before_it_falls : (vcd_capture 1 (0 ∷ []) (codes "$timescale 1 ns $end\n$var wire 1 ! A $end\n$enddefinitions $end\n#0 0!\n#5 0!\n#3 0!\n") AtEnd).settled ≡ 0 ∷ 0 ∷ 0 ∷ 0 ∷ 0 ∷ []
  -- a pulse between two samples
  pub between : (vcd_capture 2 (0 ∷ []) (codes "$timescale 1us $end $var wire 1 ! A $end $enddefinitions $end #10 0! #13 1! #14 0! #17") AtEnd).settled ≡ 0 ∷ 0 ∷ 0 ∷ 0 ∷ []
  -- no end of the definitions
  pub no_end : vcd_capture 1 [] (codes "$timescale 1 ns $end") AtEnd ≡ record { head = Bad NoDefinitions; settled = []; ending = Faulty NoDefinitions }
  -- sections and tokens that are passed over
  pub passed : (vcd_capture 1 (0 ∷ []) (codes "$date Monday $end $version 1 $end note $end $timescale 1 us $end $scope module top $end $var wire 1 ! D0 $end $var real 0 \" v $end $upscope $end $enddefinitions $end #0 $dumpvars 0! r0 \" $end #1 1! #2") AtEnd).settled ≡ 0 ∷ 1 ∷ 1 ∷ []

-- a header of one channel, and a body behind it
abbrev pub with_body : List ℕ → List ℕ
with_body body = codes "$timescale 1 us $end $var wire 1 ! A $end $enddefinitions $end " ++ body

-- faults, and what is none
pub record Faults : Type 0 where
  -- a value without its code ends the file, or the bytes are cut there
  pub hanging : (vcd_capture 1 [] (with_body (codes "#0 b1")) AtEnd).ending ≡ Faulty (Token 66)
  pub cut_there : (vcd_capture 1 [] (with_body (codes "#0 b1 ")) Cut).ending ≡ Open
  -- a code is the next token, whatever it is
  pub any_code : (vcd_capture 1 [] (with_body (codes "#0 b1 $comment r0 #5 #1")) AtEnd).ending ≡ Clean
  -- a comment goes to its end, or to that of the file
  pub comment : (vcd_capture 1 [] (with_body (codes "#0 $comment b1 $end 1! $comment x")) AtEnd).ending ≡ Clean
  -- a value alone
  pub alone : (vcd_capture 1 [] (with_body (codes "#0 1")) AtEnd).ending ≡ Faulty (Token 66)
  pub large : (vcd_capture 1 [] (with_body (codes "#1152921504606846976")) AtEnd).ending ≡ Faulty (TimeLarge 63)
  pub no_scale : (vcd_capture 1 [] (codes "$enddefinitions $end") AtEnd).head ≡ Bad NoTimescale
  -- the header's last token ends the bytes: it is whole where they end, and not where they are cut
  pub good_at_end : (vcd_capture 2 [] (codes "$timescale 10 ms $end $enddefinitions $end") AtEnd).head ≡ Good [] (10 ^ 3) 20
  pub unread : (vcd_capture 2 [] (codes "$timescale 10 ms $end $enddefinitions $end") Cut).head ≡ Unread
  pub size : (vcd_capture 1 [] (codes "$var wire 0 ! A $end ") Cut).head ≡ Bad (Token 0)
  pub scale : (vcd_capture 1 [] (codes "$timescale $end ") Cut).head ≡ Bad (Token 11)

-- 2^40 samples of one value, and one of another
pub record Sparse : Type 0 where
  pub ending : (vcd_capture 1 (0 ∷ []) sparse AtEnd).ending ≡ Clean
  pub settled : (vcd_capture 1 (0 ∷ []) sparse AtEnd).settled ≡ words_from ((codes "!", 0) ∷ []) (Reaches 0 ∷ Sets (codes "!") (codes "0") ∷ Reaches (2 ^ 40) ∷ Sets (codes "!") (codes "1") ∷ []) 0 1 (2 ^ 40 + 1)
