-- Lemmas that laws of machines cite.
pub mod FitLaws
pub mod KindLaws
pub mod OwnLaws
pub mod MemberLaws
pub mod OneDecoder
pub mod SavedLaws
