-- Laws of `FieldValue.antt`: `is_strict_value` from the test of the form and the test of the ranges. Assumes nothing.
use Rattle.std.specs.Prelude.{◌≡◌, ℕ, true, false, List}
use Rattle.field_types.specs.declared.field_type.FieldType.{FieldType}
use Rattle.field_types.specs.declared.field_type.Format.{Format}
use Rattle.field_types.specs.FieldType.{format_of}
use Rattle.formats.specs.FieldValue.{is_of_format, is_in_ranges, is_strict_value}

module _ (type : FieldType) (value : List ℕ) (format : Format) (form : format ≡ format_of type) where
  pub strict_not_of_form : is_of_format format value ≡ false → is_strict_value type value ≡ false
  strict_not_of_form other = rw (← form, other)

  pub strict_of_form : is_of_format format value ≡ true → is_strict_value type value ≡ is_in_ranges format value
  strict_of_form valid = rw (← form, valid)
