-- Laws of `LevelLines.antt`: the next line of a text, and how many bytes a line has at least. Assumes nothing.
use Rattle.std.specs.Prelude.{◌≡◌, refl, ℕ, zero, suc, ◌+◌, ◌-◌, ◌≤◌, ◌<◌, Bool, true, false, cond, List, [], ◌∷◌, length, take, Option, Some, None}
use Rattle.std.proofs.Common.{ap, sym, ◌∙◌, arith, length-append, length-take-le, drop-drop}
use Rattle.std.proofs.Math.Seq.{drop-append-add}
use Rattle.std.proofs.lemmas.Bool.{false≢true}
use Rattle.std.proofs.Math.ListN.{drop, length-drop}
use Rattle.ascii.specs.Bytes.{ascii, non_empty}
use Rattle.ascii.specs.BytesLaws.{non_empty-none, non_empty-some}
use Rattle.line_forms.specs.declared.line.Line.{Line}
use Rattle.line_forms.specs.declared.line.Line.TheVariants.{EndHeader, EndTrailer, BeginHeader, BeginTrailer, Unknown}
use Rattle.lines.specs.Lines.{position_of, before, behind, starts_with, is_same, line_feed, comma}
use Rattle.lines.specs.LinesLaws.{starts_with_length, found_within, cut-at_piece, cut-at_last, cut-nothing}
use Rattle.lines.specs.TextLines.{IsFirstLine, IsUnended}
use Rattle.lines.specs.LineParts.{number_of, flag_of, type_of, message_type_of, value_of}
use Rattle.line_forms.specs.LineForms.{def_with, def_of, value_with, begin_of, component_with, message_with, message_of, field_with, field_of, group_with, group_rest, group_of, use_with, use_of, end_with, end_of, member_with, required_with, block_line_of, definition_line_of, line_of}
use Rattle.layout_text.specs.declared.level_line.LevelLine.{LevelLine}
use Rattle.layout_text.specs.declared.level_line.LevelLine.TheVariants.{OtherLine}
use Rattle.layout_text.specs.LevelLines.{level_line_of, lines_in, lines_at, least_bytes, IsNextLine}
use Rattle.lines.specs.declared.line_parts.Admitted.{Admitted}

-- ---- least_bytes: a line has its key, and its line feed

least : Line → ℕ
least line = least_bytes (level_line_of line)

least-def : (tag : Option ℕ) (name : Option ℕ) → least (def_with tag name) ≡ 1
unfolding least least_bytes level_line_of
least-def (Some tag) (Some place) = refl
least-def (Some tag) None = refl
least-def None name = refl

least-value : (value : Option Admitted) → least (value_with value) ≡ 1
unfolding least least_bytes level_line_of
least-value (Some admitted) = refl
least-value None = refl

least-begin : (header trailer : Bool) → least (cond header BeginHeader (cond trailer BeginTrailer Unknown)) ≡ 1
unfolding least least_bytes level_line_of
least-begin true trailer = refl
least-begin false true = refl
least-begin false false = refl

least-component : (name : Option ℕ) → least (component_with name) ≡ 1
unfolding least least_bytes level_line_of
least-component (Some name) = refl
least-component None = refl

least-message_with : (name : Option ℕ) (app : Bool) → least (message_with name app) ≡ 1
unfolding least least_bytes level_line_of
least-message_with (Some letters) app = refl
least-message_with None app = refl

least-message : (name : Option ℕ) (app admin : Bool) → least (cond app (message_with name true) (cond admin (message_with name false) Unknown)) ≡ 1
unfolding least least_bytes level_line_of
least-message name true admin = least-message_with name true
least-message name false true = least-message_with name false
least-message name false false = refl

least-field : (tag : Option ℕ) (flag : Option Bool) → least (field_with tag flag) ≡ 1
unfolding least least_bytes level_line_of
least-field (Some tag) (Some true) = refl
least-field (Some tag) (Some false) = refl
least-field (Some tag) None = refl
least-field None flag = refl

least-group : (count delimiter : Option ℕ) (flag : Option Bool) → least (group_with count delimiter flag) ≤ 7
unfolding least least_bytes level_line_of
least-group (Some count) (Some delimiter) (Some true) = omega arith
least-group (Some count) (Some delimiter) (Some false) = omega arith
least-group (Some count) (Some delimiter) None = omega arith
least-group (Some count) None flag = omega arith
least-group None delimiter flag = omega arith

least-use : (name : Option ℕ) (flag : Option Bool) → least (use_with name flag) ≡ 1
unfolding least least_bytes level_line_of
least-use (Some name) (Some true) = refl
least-use (Some name) (Some false) = refl
least-use (Some name) None = refl
least-use None flag = refl

least-end_with : (number : Option ℕ) (name : Option ℕ) → least (end_with number name) ≤ 5
unfolding least least_bytes level_line_of
least-end_with (Some number) name = omega arith
least-end_with None (Some letters) = omega arith
least-end_with None None = omega arith

least-end : (header trailer : Bool) (line : Line) → least line ≤ 5 → least (cond header EndHeader (cond trailer EndTrailer line)) ≤ 5
unfolding least least_bytes level_line_of
least-end true trailer line short = omega arith
least-end false true line short = omega arith
least-end false false line short = short

least-member : (tag : Option ℕ) → least (member_with tag) ≤ 8
unfolding least least_bytes level_line_of
least-member (Some tag) = omega arith
least-member None = omega arith

least-required : (tag : Option ℕ) → least (required_with tag) ≤ 10
unfolding least least_bytes level_line_of
least-required (Some tag) = omega arith
least-required None = omega arith

least-unknown : least Unknown ≡ 1
unfolding least least_bytes level_line_of
least-unknown = refl

module _ (bytes : List ℕ) where
  -- a line that begins with a key has the bytes of the key
  by_key : (key : List ℕ) (starts : Bool) → starts_with key bytes ≡ starts → (this that : Line) → least this ≤ length key + 1 → least that ≤ length bytes + 1
      → least (cond starts this that) ≤ length bytes + 1
  by_key key true test this that of-this of-that = omega (arith, starts_with_length key bytes test)
  by_key key false test this that of-this of-that = of-that

  key_choice : (key : List ℕ) (this that : Line) → least this ≤ length key + 1 → least that ≤ length bytes + 1
      → least (cond (starts_with key bytes) this that) ≤ length bytes + 1
  key_choice key this that of-this of-that = by_key key (starts_with key bytes) refl this that of-this of-that

  block_short : least (block_line_of bytes) ≤ length bytes + 1
  unfolding block_line_of message_of
  block_short =
      let rest = drop 8 bytes in
      let message : least (message_of rest) ≡ 1 =
      least-message (message_type_of (before comma rest)) (is_same (ascii "app") (behind comma rest)) (is_same (ascii "admin") (behind comma rest)) in
      key_choice (ascii "component=") _ _ (omega (arith, least-component (number_of (drop 10 bytes))))
      (key_choice (ascii "message=") _ _ (omega (arith, message))
      (key_choice (ascii "member=") _ _ (omega (arith, least-member (number_of (drop 7 bytes))))
      (key_choice (ascii "required=") _ _ (omega (arith, least-required (number_of (drop 9 bytes))))
      (omega (arith, least-unknown)))))

  definition-short : least (definition_line_of bytes) ≤ length bytes + 1
  unfolding definition_line_of def_of begin_of
  definition-short =
      let rest = drop 4 bytes in
      key_choice (ascii "def=") _ _ (omega (arith, least-def (number_of (before comma rest)) (type_of (behind comma rest))))
      (key_choice (ascii "value=") _ _ (omega (arith, least-value (value_of (drop 6 bytes))))
      (key_choice (ascii "begin=") _ _ (omega (arith, least-begin (is_same (ascii "header") (drop 6 bytes)) (is_same (ascii "trailer") (drop 6 bytes))))
      block_short))

  line-short : least (line_of bytes) ≤ length bytes + 1
  unfolding line_of field_of group_of group_rest use_of end_of
  line-short =
      let six = drop 6 bytes in
      let four = drop 4 bytes in
      let rest = behind comma six in
      let group : least (group_of six) ≤ 7 = least-group (number_of (before comma six)) (number_of (before comma rest)) (flag_of (behind comma rest)) in
      let end : least (end_of four) ≤ 5 = least-end (is_same (ascii "header") four) (is_same (ascii "trailer") four) (end_with (number_of four) (message_type_of four)) (least-end_with (number_of four) (message_type_of four)) in
      key_choice (ascii "field=") _ _ (omega (arith, least-field (number_of (before comma six)) (flag_of (behind comma six))))
      (key_choice (ascii "group=") _ _ (omega (arith, group))
      (key_choice (ascii "use=") _ _ (omega (arith, least-use (number_of (before comma four)) (flag_of (behind comma four))))
      (key_choice (ascii "end=") _ _ (omega (arith, end))
      definition-short)))

  pub least_bytes-line : least_bytes (level_line_of (line_of bytes)) ≤ length bytes + 1
  unfolding least
  least_bytes-line = line-short

-- ---- lines_at

pub lines_none : (text : List ℕ) (first : ℕ) → length text ≤ first → lines_at text first ≡ []
unfolding lines_in non_empty
lines_none text first over = rw (cut-nothing line_feed text first over)

-- the search for the line feed from `first` on stopped at `past`
module _ (text : List ℕ) (first past : ℕ) (inside : first < length text) (found : past ≡ first + position_of line_feed (drop first text)) where
  pub next-unended : past ≡ length text → lines_at text first ≡ OtherLine ∷ lines_at text past
  unfolding lines_in
  next-unended at-end =
      rw (lines_none text past (omega arith), cut-at_last line_feed text first past (omega arith) found at-end, non_empty-some (drop first text) (λ empty. omega (arith, length-drop first text)))

  module _ (before-end : past ≡ length text → ⊥) where
    pub next-line : (line : Line) → line ≡ line_of (take (past - first) (drop first text)) → (level : LevelLine) → level ≡ level_line_of line
        → lines_at text first ≡ level ∷ lines_at text (past + 1)
    unfolding lines_in
    next-line line reads level is = rw (cut-at_piece line_feed text first past (omega arith) found before-end, is, reads)

    pub next-long : (line : Line) → line ≡ line_of (take (past - first) (drop first text)) → (level : LevelLine) → level ≡ level_line_of line → first + least_bytes level ≤ past + 1
    next-long line reads level is =
        let bounds = found_within line_feed text first past (omega arith) found in
        let bytes = take (past - first) (drop first text) in
        let size : length bytes ≡ past - first = length-take-le (past - first) (drop first text) (omega (arith, length-drop first text, bounds)) in
        let same : least_bytes level ≡ least_bytes (level_line_of (line_of bytes)) = ap least_bytes is ∙ ap (λ (each : Line). least_bytes (level_line_of each)) reads in
        omega (arith, bounds, size, same, least_bytes-line bytes)

pub least_other : least_bytes OtherLine ≡ 1
unfolding least_bytes
least_other = refl

-- ---- IsNextLine: the first line of the text from `first` on, where `left` is left of it

module _ (text : List ℕ) (first : ℕ) (within : first ≤ length text) (left : List ℕ) where
  pub next_first : (bytes : List ℕ) → IsFirstLine (drop first text) bytes left → (level : LevelLine) → level ≡ level_line_of (line_of bytes)
      → IsNextLine text first level (length text - length left)
  unfolding lines_in
  next_first bytes is level level_is =
      let sizes : length text ≡ first + length bytes + 1 + length left = omega (arith, ap length is.bytes, length-drop first text, within, length-append bytes (line_feed ∷ left)) in
      let next : length text - length left ≡ first + (length bytes + 1) = omega (arith, sizes) in
      let behind : drop (first + (length bytes + 1)) text ≡ left =
      sym (drop-drop (length bytes + 1) first text) ∙ ap (drop (length bytes + 1)) is.bytes ∙ drop-append-add bytes (line_feed ∷ left) 1 in
      record {
        reads = rw (is.cut_off, next, behind, level_is);
        bounds = (omega (arith, sizes), omega arith, omega (arith, sizes, ap least_bytes level_is, least_bytes-line bytes));
      }

  pub next_other : IsUnended (drop first text) → left ≡ [] → IsNextLine text first OtherLine (length text - length left)
  unfolding lines_in
  next_other is none =
      let next : length text - length left ≡ length text = omega (arith, ap length none) in
      let some : length (drop first text) ≡ 0 → ⊥ = λ empty. false≢true (sym (non_empty-none (drop first text) empty) ∙ is.some_byte) in
      let inside : first < length text = omega (arith, some_more (length (drop first text)) some, length-drop first text) in
      record {
        reads = rw (next, lines_none text (length text) (omega arith), is.uncut, is.some_byte);
        bounds = (omega (arith, inside, next), omega (arith, next), omega (arith, inside, next, least_other));
      }
    where
      some_more : (many : ℕ) → (many ≡ 0 → ⊥) → 0 < many
      some_more zero none' = absurd (none' refl)
      some_more (suc many) none' = omega arith
