-- The parts of texts, worked out by hand: by the remainder of the sum of their bytes.
use Rattle.std.specs.Prelude.{◌≡◌, [], ◌∷◌, codes}
use Rattle.mfotl_model.specs.Strategies.{strategy_part}
use Rattle.mfotl_model.specs.Strategies.Entry.{Hash}
use Rattle.mfotl_model.specs.declared.value.Value.TheVariants.{Text}

-- 97 and 98 are 195, and the two bytes of `é` are 364
pub record WorkedParts : Type 0 where
  pub letters : strategy_part (Hash 4) (Text (codes "ab")) ≡ 3
  pub past_ascii : strategy_part (Hash 5) (Text (195 ∷ 169 ∷ [])) ≡ 4
