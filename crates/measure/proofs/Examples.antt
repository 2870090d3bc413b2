-- The worked examples hold, by computing. Assumes nothing.
use mathlib.Core.Path.{◌≡◌, refl, sym, ◌∙◌}
use mathlib.Core.List.{[], ◌∷◌}
use lib.IntN.{negsuc}
use Rattle.measure.specs.Sheets.{Measuring, measuring}
use Rattle.measure.specs.Examples.{fittings, room, AllFit}

-- two answers that come to the same one
come_to : (x : Measuring) {a b : Measuring} → a ≡ x → b ≡ x → a ≡ b
come_to x p q = p ∙ sym q

-- The answer for the sheet by name, its table written out: the eight rows, and the name in a data word. Both sides are computed to it,
-- since to compare two tables that are not computed, word by word, takes too long where there are data words.
abbrev named : Measuring
named = record {
  number = 0;
  place = 0;
  words = 29;
  missing = 0;
  order = negsuc 0;
  unit = 1;
  chest = 320;
  waist = 272;
  sleeve = 204;
  chest_um = 1016000;
  waist_um = 863600;
  sleeve_um = 647700;
  table =
      8 ∷ 1 ∷ 28 ∷ 1 ∷ 8 ∷ 7 ∷ 7 ∷ 9 ∷ 7 ∷ 0 ∷ 1 ∷ 0 ∷ 1 ∷ 1 ∷ 0 ∷ 0xffff_ffff_ffff_ffff ∷ 6 ∷ 0 ∷ 1 ∷ 1 ∷ 0 ∷ 320 ∷ 1 ∷ 0 ∷ 272 ∷ 1 ∷ 0 ∷ 204
      ∷ 0x4d45_4153_5552_4500 ∷ [];
}

pub fittings_hold : AllFit fittings
unfolding fittings room measuring
fittings_hold = (refl, (refl, (refl, (come_to named refl refl, (refl, (refl, (refl, (refl, (refl, (refl, (refl, tt)))))))))))
