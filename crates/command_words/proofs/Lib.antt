mod OptionLaws
mod SplitLaws
