-- The limits of the gate (document 01, 'The layout of a message type'). Definitions and laws take them as a parameter, so that other
-- limits change no law. Assumes nothing.
--
--   gate_limits   "top 0; over 32 refuses", "one of 4,096 nodes", "members of all levels may number 8,192 and the entries of all required
--                lists 2,048"
use Rattle.std.specs.Prelude.{ℕ}

pub record Limits : Type 0 where
  -- the greatest depth of a group or of the use of a component
  pub depth : ℕ
  -- how many groups and uses of components an expansion may enter
  pub nodes : ℕ
  -- how many members all levels of a layout may have together
  pub members : ℕ
  -- how many entries the required lists of all levels may have together
  pub required : ℕ

abbrev pub gate_limits : Limits
gate_limits = record { depth = 32; nodes = 4096; members = 8192; required = 2048 }
