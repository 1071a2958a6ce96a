-- `put_dictionary::record_words::put_record` meets its contract: the ten words are copied.
use Rattle.std.proofs.Common.{◌≡◌, length, refl, ap, ◌∙◌, arith}
use Rattle.std.proofs.lemmas.List.Edits.{sets}
use Rattle.std.proofs.lemmas.Slice.{put_mid-paste}
use Rattle.records.specs.RecordsLaws.{record_of-length}
use Rattle.put_dictionary.specs.IndexWordsLaws.{pasted_is}
use Rattle.put_dictionary.proofs.record_words.put_record.Goals as goal

pub returns : goal.returns
returns c =
    let ten : length c.record_of.result ≡ 10 = ap length c.record_of.ensures ∙ record_of-length c.args.line in
    put_mid-paste _ _ _ _ _ _ c.copy_from_slice.ensures.after (omega (arith, ten)) refl
    ∙ (pasted_is c.args.words.now c.record_of.result c.args.at (omega (arith, ten, c.requires)) ∙ ap (sets c.args.words.now c.args.at) c.record_of.ensures)
