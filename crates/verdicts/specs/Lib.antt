-- Definitions and laws of the crate `verdicts`: the verdicts on the fields of a message. A definition's laws stand in the file of its name
-- with `Laws`, examples in the crate `worked_messages`. To read: `Verdicts`; `VerdictOfText` ties a verdict to the dictionary's text.
pub mod VerdictOfText
pub mod Verdicts
pub mod VerdictsLaws
