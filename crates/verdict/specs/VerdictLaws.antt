-- Laws of `Verdict.antt`. Assumes nothing.
use Rattle.std.specs.Prelude.{◌≡◌, ℕ, Bool, true, false, List, Option, Some, None}
use Rattle.std.proofs.Math.Path.{refl}
use Rattle.std.proofs.Common.{sym, ap, ◌∙◌}
use Rattle.ascii.specs.Split.{Parts, last, part, split, every_part}
use Rattle.field_types.specs.declared.field_type.FieldType.{FieldType}
use Rattle.field_types.specs.declared.field_type.Format.{Format}
use Rattle.field_types.specs.FieldType.{format_of}
use Rattle.formats.specs.FieldValue.{is_of_format, is_valid_value, is_in_ranges}
use Rattle.verdict.specs.Verdict.{has_format, admits_each, typed_verdict}

-- ---- typed_verdict: only what is said of single values counts

module _ (admits others : List ℕ → Bool) (alike : (value : List ℕ) → admits value ≡ others value) where
  every_part-alike : (parts : Parts) → every_part admits parts ≡ every_part others parts
  unfolding every_part
  every_part-alike (last bytes) = alike bytes
  every_part-alike (part bytes more) = rw (alike bytes, every_part-alike more)

  admits_each-alike : (value : List ℕ) → admits_each admits value ≡ admits_each others value
  unfolding admits_each
  admits_each-alike value = every_part-alike (split 0x20 value)

  pub typed_verdict-alike : (strict : Bool) (value : List ℕ) (type : Option FieldType) → typed_verdict admits strict value type ≡ typed_verdict others strict value type
  typed_verdict-alike strict value (Some type) = rw (admits_each-alike value, alike value)
  typed_verdict-alike strict value None = refl

-- ---- has_format: one test of the form serves both modes

module _ (type : FieldType) (value : List ℕ) (format : Format) (known : format ≡ format_of type) (formed : Bool) (form : formed ≡ is_of_format format value)
    (strict : Bool) where
  formed_here : formed ≡ is_valid_value type value
  formed_here = form ∙ ap (λ (other : Format). is_of_format other value) known

  pub has_format-plain : strict ≡ false → formed ≡ has_format strict type value
  has_format-plain plain = rw plain formed_here

  module _ (asked : strict ≡ true) where
    pub has_format-unformed : formed ≡ false → formed ≡ has_format strict type value
    has_format-unformed bad =
        let invalid : is_valid_value type value ≡ false = sym formed_here ∙ bad in
        rw (asked, invalid) bad

    pub has_format-ranges : formed ≡ true → (ranged : Bool) → ranged ≡ is_in_ranges format value → ranged ≡ has_format strict type value
    has_format-ranges good ranged tested =
        let valid : is_valid_value type value ≡ true = sym formed_here ∙ good in
        rw (asked, valid) (tested ∙ ap (λ (other : Format). is_in_ranges other value) known)
