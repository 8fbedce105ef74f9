-- What the outputs of `capi_readers` hold. Assumes nothing.
pub mod Standing
