pub mod MessageLaws
