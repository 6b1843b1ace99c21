pub mod AsciiLemmas
pub mod CharacterLemmas
pub mod CharactersLemmas
pub mod PushLemmas
pub mod TableLemmas
pub mod TextLemmas
