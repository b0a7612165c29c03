pub mod OldKeys
